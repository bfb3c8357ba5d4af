use Rattle.std.proofs.Common.{ℕ, rules, arith}
use Rattle.gas_seats.proofs.Numbered.{one_more}
use Rattle.mutex_hall.specs.Seats.{Seat}
use Rattle.mutex_hall.proofs.hall.Hall.open.Goals as goal

-- the seat of this number, before it has made an entry
abbrev fresh : ℕ → Seat
fresh i = record { number = i; entries = 0 }

pub loop-number-preserved : goal.loop-number-preserved
loop-number-preserved g c =
    let so_far = c.loop-number.invariant in (
      omega (arith, so_far, c.split_off.ensures.parts_left),
      search rules,
      search rules,
      search rules,
      search rules,
      one_more fresh c.loop-number.all.items c.push_reserved.new.self.items c.loop-number.number (search rules) c.push_reserved.ensures.items so_far.5,
    )
