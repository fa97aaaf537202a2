-- A name as it is shown has no colon and no space.
use mathlib.Core.Bool.{Bool, true, false}
use mathlib.Core.List.{List}
use Prim.Native.Nat.{ℕ}
use Rattle.lists.specs.Every.{EveryPasses}
use Rattle.text_pieces.proofs.Escaped.{is_shown, escaped-shown}
use Rattle.text_scan.specs.Line.{shown_name}

pub shown-plain : (c : Bool) (name : List ℕ) → EveryPasses is_shown (shown_name c name)
shown-plain true name = tt
shown-plain false name = escaped-shown name
