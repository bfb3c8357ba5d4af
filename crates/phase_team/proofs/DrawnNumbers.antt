-- The numbers that seats drew, all together.
use Rattle.std.proofs.Common.{◌≡◌, ℕ, ◌<◌, cond, arith, List, [], ◌∷◌, ◌++◌, append-nil, ap, ◌∙◌}
use Rattle.std.specs.List.{sum_by, count_by}
use Rattle.claim_desk.proofs.Sums.{sum_pop}
use Rattle.std.proofs.lemmas.Grind.{flat_map-append}
use Rattle.std.proofs.lemmas.List.Concat.{flat_map-cons}
use Rattle.gas_terms.proofs.ListSums.{sum_by-flat_map}
use Rattle.claim_desk.specs.Desk.{SeatView}
use Rattle.claim_desk.specs.Draws.{times}
use Rattle.phase_team.specs.Teamwork.{drawn}

pub drawn_push : (seats all : List SeatView) (s : SeatView) → all ≡ seats ++ s ∷ [] → drawn all ≡ drawn seats ++ s.numbers
drawn_push seats all s e =
    ap drawn e
    ∙ (flat_map-append (λ (s : SeatView). s.numbers) seats (s ∷ [])
    ∙ ap (λ ns. drawn seats ++ ns) (flat_map-cons (λ (s : SeatView). s.numbers) s [] ∙ append-nil s.numbers))

pub times-drawn : (x : ℕ) (seats : List SeatView) → times x (drawn seats) ≡ sum_by (λ (s : SeatView). times x s.numbers) seats
times-drawn x seats = sum_by-flat_map _ (λ (s : SeatView). s.numbers) seats

pub still_ended : (all seats : List SeatView) (s : SeatView) → all ≡ seats ++ s ∷ [] → 0 < count_by (λ (s : SeatView). s.ended) seats → 0 < count_by (λ (s : SeatView). s.ended) all
still_ended all seats s e some = let sum = sum_pop (λ (s : SeatView). cond {A = ℕ} s.ended 1 0) all seats s e in omega arith
