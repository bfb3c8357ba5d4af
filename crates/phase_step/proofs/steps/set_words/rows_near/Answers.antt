use Rattle.std.proofs.Common.{◌≡◌, ℕ, ◌+◌, ◌*◌, ◌<◌, ◌≤◌, arith}
use Rattle.std.proofs.lemmas.Bool.Decides.{nat_tests}
use Rattle.phase_step.proofs.SolidBlocks.{near_in}
use Rattle.phase_step.proofs.steps.set_words.rows_near.Goals as goal
use Rattle.phase_step.proofs.steps.set_words.rows_near.Goals.{then-k-n, else-k-n, then-k-n-2, else-k-n-2}

pub returns : goal.returns
returns c =
    let start = c.args.start in
    let len = c.args.len in
    let k = c.args.k in
    let n = c.args.n in
    let first = c.if-k-n.first in
    let last = c.if-k-n-2.last in
    let low : (u : ℕ) → u < 2 * first → k * 64 + u < start + 1 =
    elim c.if-k-n.branch [
      | then-k-n w ↦ λ u less. absurd (omega (arith, less, w.first-is))
      | else-k-n w ↦ λ u less. omega (arith, less, w.first-is, w.saturating_sub.ensures)
    ] in
    let top : k ≡ 0 → n * 64 ≤ start + len → first ≡ 0 =
    elim c.if-k-n.branch [
      | then-k-n w ↦ λ _ _. w.first-is
      | else-k-n w ↦ λ e f. absurd (let no = w.if-k-n.false in grind (arith, nat_tests))
    ] in
    let bottom : k + 1 ≡ n → start ≡ 0 → last ≡ 33 =
    elim c.if-k-n-2.branch [
      | then-k-n-2 w ↦ λ _ _. w.last-is
      | else-k-n-2 w ↦ λ e f. absurd (let no = w.if-k-n-2.false in grind (arith, nat_tests))
    ] in
    let none : start ≡ 0 → first ≡ 0 =
    elim c.if-k-n.branch [
      | then-k-n w ↦ λ _. w.first-is
      | else-k-n w ↦ λ e. omega (arith, e, w.first-is, w.saturating_sub.ensures)
    ] in
    let some : k ≡ 0 → 1 ≤ last =
    elim c.if-k-n-2.branch [
      | then-k-n-2 w ↦ λ e. omega (arith, w.last-is)
      | else-k-n-2 w ↦ λ e. omega (arith, e, w.last-is, w.min-last.ensures, w.saturating_sub-else-k-n-2.ensures)
    ] in
    let few : last ≤ 33 =
    elim c.if-k-n-2.branch [
      | then-k-n-2 w ↦ omega (arith, w.last-is)
      | else-k-n-2 w ↦ omega (arith, w.last-is, w.min-last.ensures)
    ] in
    let high : (u : ℕ) → u ≤ 65 → 2 * last ≤ u → start + len < k * 64 + u =
    elim c.if-k-n-2.branch [
      | then-k-n-2 w ↦ λ u small more. absurd (omega (arith, small, more, w.last-is))
      | else-k-n-2 w ↦ λ u small more. omega (arith, small, more, w.last-is, w.min-last.ensures, w.saturating_sub-else-k-n-2.ensures)
    ] in
    near_in start len k n first last c.requires.k.0 few low high (λ e f. (top e f, some e)) (λ e f. (none f, bottom e f))
