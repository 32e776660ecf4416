use Rattle.std.proofs.Common.{◌≡◌, ◌++◌, ap, flat_map, sym, ◌∙◌, IfOk}
use Rattle.plain_shapes.specs.Ppm.{pixel_bytes, ppm}
use Rattle.plain_image.proofs.RoundTrip.{ppm_of-ppm, then_reads}
use Rattle.plain_image.proofs.Texts.{ppm_head}
use Rattle.plain_image.proofs.image.Image.write_ppm.Goals as goal

pub returns : goal.returns
returns c =
    let own = c.self.invariant in
    let head_is = ap (λ bs. bs ++ flat_map pixel_bytes c.self.inside.pixels) (c.as_str.ensures.value ∙ c.in_ok-head.ensures)
    ∙ sym (ppm_head c.self.inside.cols c.self.inside.rows c.self.inside.pixels) in
    let text : IfOk c.bytes_after.result (λ v. v.items ≡ ppm c.self.inside.cols c.self.inside.rows c.self.inside.pixels) =
    rw (← head_is) c.bytes_after.ensures in
    rw (← c.self.view_is) (record {
      text = text;
      reads_back = then_reads (λ v. v.items) c.bytes_after.result _ _ text
          (ppm_of-ppm c.self.inside.cols c.self.inside.rows c.self.inside.pixels own.some_col own.few_cols own.some_row own.few_rows own.count_is);
    })
