-- What features are looked for by.
use Rattle.std.specs.Prelude.{Bool, nat_eq}
use Rattle.plain_shapes.specs.Features.{Feature}
use Rattle.data_versions.specs.Near.{is_near}
use Rattle.data_versions.specs.declared.question.Question.{Question}
use Rattle.data_versions.specs.declared.question.Question.TheVariants.{HasId, IsNear}

-- the feature has the id, or is near the rectangle
abbrev pub answers : Question → Feature → Bool
answers (HasId id) = λ f. nat_eq f.id id
answers (IsNear wanted) = is_near wanted.around
