-- The field of a whole input, and why there is none.
use Rattle.std.specs.Prelude.{◌≡◌, ℕ, Bool, ◌⊎◌, List, Some, None}
use Rattle.grid.specs.declared.cell.Cell.{Cell}
use Rattle.grid.specs.declared.sizes.Sizes.{Sizes}
use Rattle.grid.specs.Geometry.{Place, IsGrid}
use Rattle.pictures.specs.Numbered.{marks_by_number}
use Rattle.pbm.specs.Faults.{FaultyBytes}
use Rattle.pbm.specs.Form.{IsStack}
use Rattle.pbm.specs.Marks.{stack_cells}
use Rattle.rules.specs.declared.spacings.Spacings.{Spacings}
use Rattle.rules.specs.Doors.{spacing_door}
use Rattle.rules.specs.Formulas.{HasSpacings}
use Rattle.job.specs.Doors.{start_door}
use Rattle.job_text.specs.declared.settings.Settings.{Settings}
use Rattle.rules.specs.Named.{named_near}
use Rattle.replay.specs.declared.new_cells.FieldError.{FieldError}
use Rattle.replay.specs.declared.new_cells.FieldError.TheVariants as field
use Rattle.replay.specs.Whole.{FieldFound}
use Rattle.volumes.specs.declared.field.VolumeFault.{VolumeFault}
use Rattle.volumes.specs.declared.field.VolumeFault.TheVariants.{Stack, Refused, NoMemory}

-- a fault of the field is one of the volume
abbrev pub field_fault : FieldError → VolumeFault
field_fault (field.Refused e) = Refused e
field_fault field.NoMemory = NoMemory

-- the cells are the finished field of the marks under the rule and the spacings of the settings
pub record SetField (settings : Settings) (s : Sizes) (marks : Place → Bool) (cells : List Cell) : Type 0 where
  pub spacings : Spacings
  pub as_set : HasSpacings spacings settings.sx settings.sy settings.sz
  pub found : FieldFound (named_near settings.rule spacings) s (marks_by_number s marks) cells

-- are the spacings in range? Only then is a field looked for.
abbrev pub SpacingsFit : Settings → Type 0
SpacingsFit settings = spacing_door settings.sx settings.sy settings.sz ≡ None

abbrev pub NoSetField : Settings → Sizes → (Place → Bool) → VolumeFault → Type 0
NoSetField settings s marks (Stack f) = ⊥
NoSetField settings s marks (Refused e) =
    (spacing_door settings.sx settings.sy settings.sz ≡ Some e) ⊎ (SpacingsFit settings × (start_door s (marks_by_number s marks) ≡ Some e))
NoSetField settings s marks NoMemory = SpacingsFit settings

-- the input is a stack of these sizes, which are a grid's
pub record SoundStack (input : List ℕ) (s : Sizes) : Type 0 where
  pub form : IsStack input s
  pub grid : IsGrid s

-- the input is a sound stack of these sizes, and the cells are the finished field of its set bits
pub record FindsVolume (settings : Settings) (input : List ℕ) (s : Sizes) (cells : List Cell) : Type 0 where
  pub sound : SoundStack input s
  pub field : SetField settings s (stack_cells s input) cells

-- the input is a sound stack, and its field is not found for this reason
pub record NotFound (settings : Settings) (input : List ℕ) (fault : VolumeFault) : Type 0 where
  pub sizes : Sizes
  pub sound : SoundStack input sizes
  pub no_field : NoSetField settings sizes (stack_cells sizes input) fault

-- why there is no field: the stack's fault; or, of a sound stack, that a spacing is out of range, that no cell is
-- marked, or want of memory
abbrev pub FaultyVolume : Settings → List ℕ → VolumeFault → Type 0
FaultyVolume settings input (Stack f) = FaultyBytes input f
FaultyVolume settings input (Refused e) = NotFound settings input (Refused e)
FaultyVolume settings input NoMemory = NotFound settings input NoMemory
