-- The passes of a control (01, 'Control of a day').
use Rattle.std.specs.Prelude.{Bool, true, false}
use Rattle.detection.specs.declared.Pass.{Pass}
use Rattle.detection.specs.declared.Pass.TheVariants.{First, Second}

abbrev pub is_second : Pass → Bool
is_second First = false
is_second Second = true
