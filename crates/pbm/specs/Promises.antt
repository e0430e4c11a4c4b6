-- What making a stack promises.
use Rattle.std.specs.Prelude.{◌≡◌, ℕ, ◌+◌, ◌≤◌, List, length, IfErr, Err, Result, MatchResult}
use Rattle.grid.specs.declared.sizes.Sizes.{Sizes}
use Rattle.grid.specs.Geometry.{IsGrid}
use Rattle.pbm.specs.Form.{header, raster_bytes, images_of, AllFull, IsStack}
use Rattle.pbm.specs.Faults.{FaultyBytes}
use Rattle.pbm.specs.Marks.{raster_cells, stack_cells, stack_extent, stack_marks}
use Rattle.pbm.specs.declared.faults.StackFault.{StackFault}
use Rattle.pbm.specs.declared.stack.Stack.{Stack}

-- the stack lies over these bytes, which are a stack of its sizes
pub record LiesOver (s : Stack) (bytes : List ℕ) : Type 0 where
  pub over : s.bytes.now ≡ bytes
  pub form : IsStack bytes s.grid.sizes
  pub grid : IsGrid s.grid.sizes
  pub skip : s.skip ≡ length (header s.grid.sizes.nx s.grid.sizes.ny)
  pub stride : s.stride ≡ s.skip + raster_bytes s.grid.sizes.nx s.grid.sizes.ny

-- A stack that was made from bytes: they are a stack of its extent, and it marks just the cells whose bit is
-- set, by their places in the bytes, and so by whatever rasters the bytes are made of.
pub record Shows (s : Stack) (bytes : List ℕ) : Type 0 where
  pub lies_over : LiesOver s bytes
  pub bits : stack_marks s ≡ stack_cells s.grid.sizes bytes
  pub marks : (rasters : List (List ℕ)) → AllFull s.grid.sizes.nx s.grid.sizes.ny rasters → bytes ≡ images_of s.grid.sizes.nx s.grid.sizes.ny rasters → stack_marks s ≡ raster_cells s.grid.sizes rasters

-- bytes that are a stack of a grid's sizes are accepted, with these sizes
abbrev pub AcceptsStacks : List ℕ → Result Stack StackFault → Type 0
AcceptsStacks bytes r = (sizes : Sizes) → IsStack bytes sizes → IsGrid sizes → MatchResult r (λ s. stack_extent s ≡ sizes) (λ _. ⊥)

-- bytes that have a fault are refused with it
abbrev pub TellsFault : List ℕ → Result Stack StackFault → Type 0
TellsFault bytes r = (fault : StackFault) → FaultyBytes bytes fault → r ≡ Err fault

-- a fault stands in the bytes, or where they end
abbrev pub FaultWithin : List ℕ → Result Stack StackFault → Type 0
FaultWithin bytes r = IfErr r (λ fault. fault.byte ≤ length bytes)
