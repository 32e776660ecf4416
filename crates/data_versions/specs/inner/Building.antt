-- A layer's segments while they are built.
use Rattle.std.specs.Prelude.{List, ◌++◌}
use Rattle.plain_shapes.specs.Features.{Feature}
use Rattle.data_versions.specs.inner.Parts.{laid}
use Rattle.data_versions.specs.declared.builder.Builder.{Builder}

-- the features so far
abbrev pub built : Builder → List Feature
built b = laid b.segments.items ++ (laid b.chunks.items ++ b.loose.items)
