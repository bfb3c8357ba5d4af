use Rattle.std.specs.Prelude.{◌≡◌, ℕ, ◌+◌, ◌-◌, ◌*◌, ◌%◌, ◌^◌, ◌<◌, ◌≤◌, ◌==◌, Bool, true, false, not, ◌&&◌, if◌then◌else◌, ℤ, pos, ◌-ℤ◌}
use Rattle.std.specs.Fn.{iterate}
use Rattle.std.specs.List.{range_with_len, sum_by, count_by}
use Rattle.gas_terms.specs.Velocity.{Velocity, opposite, velocity_at, parity}
use Rattle.gas_terms.specs.Cells.{Cells, has}
use Rattle.gas_terms.specs.Gas.{Gas, solid, forward, back}
use Rattle.gas_terms.specs.Symmetry.{with_particles}

-- The terms of the laws in history_laws. What a laboratory is, does and keeps is said without them.

-- Two gases move by one rule: their ticks are both even or both odd, and they have the same walls and obstacles.
pub record MoveByOneRule (g k : Gas) : Type 0 where
  pub ticks : parity g.tick ≡ parity k.tick
  pub walls : g.walls ≡ k.walls
  pub obstacles : g.obstacles ≡ k.obstacles

-- the particles that a gas has to start with, to have given ones n steps later: n steps back from a gas that has them then
abbrev pub origin : ℕ → Gas → Cells → Cells
origin n g after = (iterate back n (with_particles (iterate forward n g) after)).particles

-- A gas has its particles again after a number of rounds of two steps, forward or back, and after each multiple of it. The
-- number is not above how many sets of cells there are.
pub record Recurs (g : Gas) : Type 0 where
  pub rounds : ℕ
  pub some : 0 < rounds
  pub bounded : rounds ≤ 2 ^ (g.particles.width * g.particles.height)
  pub forth : (k : ℕ) → (iterate forward (2 * rounds * k) g).particles ≡ g.particles
  pub back : (k : ℕ) → (iterate back (2 * rounds * k) g).particles ≡ g.particles

-- No cell is a wall or an obstacle.
abbrev pub IsClear : Gas → Type 0
IsClear g = (x y : ℕ) → x < g.walls.width → y < g.walls.height → has (solid g) x y ≡ false

-- whether a particle with this component of its velocity goes forward, to the right or down, or else back
abbrev pub goes : Bool → Bool → Bool
goes forward component = if forward then component else not component

-- how many particles of a column go to the right, or else to the left
abbrev pub in_column : Bool → Gas → ℕ → ℕ
in_column right g x =
    count_by (λ y. has g.particles x y && goes right (velocity_at (parity g.tick) x y).right)
    (range_with_len 0 g.particles.height)

-- how many particles of a row go down, or else up
abbrev pub in_row : Bool → Gas → ℕ → ℕ
in_row down g y =
    count_by (λ x. has g.particles x y && goes down (velocity_at (parity g.tick) x y).down)
    (range_with_len 0 g.particles.width)

-- The lines of the lattice are diagonals of the cells: x - y is the same along one that falls to the right, and x + y along one that
-- rises. Over the seams only the remainder by a common divisor of both sides stays.
pub record ClosesBy (m : ℕ) (cells : Cells) : Type 0 where
  pub wide : cells.width % m ≡ 0
  pub high : cells.height % m ≡ 0

-- the diagonal of a cell, of those that fall or of those that rise, by that remainder
abbrev pub diagonal_of : Bool → ℕ → ℕ → ℕ → ℕ → ℕ
diagonal_of falls m height x y = if falls then (x + height - y) % m else (x + y) % m

-- whether a velocity is the one that is asked for
abbrev pub is_velocity : Velocity → Velocity → Bool
is_velocity v u = goes v.right u.right && goes v.down u.down

-- how many particles of a diagonal have this velocity
abbrev pub on_diagonal : Bool → ℕ → ℕ → Velocity → Gas → ℕ
on_diagonal falls m rest v g =
    sum_by (λ y. count_by (λ x.
    has g.particles x y && (diagonal_of falls m g.particles.height x y == rest)
    && is_velocity v (velocity_at (parity g.tick) x y))
    (range_with_len 0 g.particles.width)) (range_with_len 0 g.particles.height)

-- the momentum of a diagonal along itself: how many more of its particles go along it to the right than to the left
abbrev pub momentum_along : Bool → ℕ → ℕ → Gas → ℤ
momentum_along falls m rest g =
    let v : Velocity = record { right = true; down = falls } in
    pos (on_diagonal falls m rest v g) -ℤ pos (on_diagonal falls m rest (opposite v) g)
