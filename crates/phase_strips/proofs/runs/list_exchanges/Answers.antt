use Rattle.std.proofs.Common.{rules, ◌≡◌, ℕ, ◌+◌, ◌++◌, ◌∷◌, Bool, List, [], length, inl, inr, sym, ap, ◌∙◌, subst, arith}
use Rattle.std.proofs.lemmas.Bool.{cases_eq}
use Rattle.std.proofs.lemmas.List.{get_or_push, get_or_append_left}
use Rattle.phase_step.specs.Actions.{Leaves}
use Rattle.phase_step.specs.Exchanges.{Areas, leaves_of, nowhere}
use Rattle.phase_strips.specs.Courses.{Lists}
use Rattle.phase_strips.proofs.runs.list_exchanges.Goals as goal

lists_more : (xs : List Areas) (leaves : ℕ → Leaves) (from n : ℕ) (e : Areas) → length xs ≡ n → Lists xs leaves from n → ((x y : ℕ) (held : Bool) → leaves_of e x y held ≡ leaves (from + n) x y held) → Lists (xs ++ e ∷ []) leaves from (n + 1)
lists_more xs leaves from n e long so_far here k below x y held =
    elim (cases_eq k n) [
      | inl same ↦ ap (λ (a : Areas). leaves_of a x y held) (get_or_push xs e nowhere k (long ∙ sym same)) ∙ (here x y held ∙ ap (λ m. leaves (from + m) x y held) (sym same))
      | inr other ↦ ap (λ (a : Areas). leaves_of a x y held) (get_or_append_left xs (e ∷ []) nowhere k (omega (arith, below, other, long))) ∙ so_far k (omega (arith, below, other)) x y held
    ]

pub loop-k-preserved : goal.loop-k-preserved
loop-k-preserved g c =
    let leaves = g.A.Action.leaves c.args.action.now in
    let was = c.loop-k.invariant in
    record {
      so_far = subst (λ xs. Lists xs leaves c.args.from (c.loop-k.k + 1)) (sym c.push_reserved.ensures.items) (lists_more c.loop-k.exchanges.items leaves c.args.from c.loop-k.k c.after_phase.result was.len was.so_far c.after_phase.ensures);
      len = search rules;
      room = search rules;
    }
