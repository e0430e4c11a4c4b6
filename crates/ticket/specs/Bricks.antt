-- What a brick marks: the cells of the grid between two corners, both among them.
use Rattle.std.specs.Prelude.{Bool, ◌&&◌, nat_le}
use Rattle.grid.specs.declared.sizes.Sizes.{Sizes}
use Rattle.grid.specs.Geometry.{Place, as_grid, inside}
use Rattle.pictures.specs.Laws.{Lawful, lawful_as_grid}
use Rattle.ticket.specs.declared.brick.Brick.{Brick}

-- no place of p is below that of the corner a
abbrev pub reaches : Place → Place → Bool
reaches p a = nat_le a.0 p.0 && (nat_le a.1 p.1 && nat_le a.2 p.2)

abbrev pub brick_test : Brick → Place → Bool
brick_test b p = reaches p b.low && reaches b.high p

-- sizes that are no grid's are read as those of a single cell
abbrev pub brick_extent : Brick → Sizes
brick_extent b = as_grid b.sizes

abbrev pub brick_marks : Brick → Place → Bool
brick_marks b p = inside (brick_extent b) p && brick_test b p

pub brick_lawful : Lawful brick_extent brick_marks
brick_lawful = lawful_as_grid (λ b. b.sizes) brick_test
