use Rattle.std.proofs.Common.{◌≡◌, OnOk, List, ℕ, ◌++◌, length, codes, ap, ◌∙◌, subst, append_assoc, rules}
use Rattle.tile_front.specs.Answers as spec
use Rattle.tile_front.proofs.texts.put_picture.Goals as goal

pub returns : goal.returns
unfolding spec.response_head spec.tile_lines
returns c =
    let old = c.args.response.now.items in
    let head : c.as_bytes.result.now ≡ spec.response_head (codes "200 OK") (codes "image/x-portable-pixmap") (length c.args.picture) (spec.tile_lines c.args.word.now c.args.version) = search rules in
    subst (λ (l : List ℕ). OnOk c.put_with_head.result (c.put_with_head.new.into.items ≡ l))
    (append_assoc old c.as_bytes.result.now c.args.picture ∙ ap (λ (h : List ℕ). old ++ (h ++ c.args.picture)) head) c.put_with_head.ensures
