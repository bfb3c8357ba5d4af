-- What the steps of the lock keep of what a seat knows, and of two seats that are apart.
use Rattle.std.proofs.Common.{◌≡◌, ◌≢◌, ℕ, ◌+◌, ◌<◌, ◌≤◌, Bool, true, false, cond, List, ◌++◌, All, IfSome, refl, sym, ap, ◌∙◌, subst, arith}
use Rattle.std.proofs.lemmas.Bool.{false_from_ne_true, both_ways}
use mathlib.Core.List.{IsPrefix}
use Rattle.ticket_lock.specs.declared.view.View.{View}
use Rattle.ticket_lock.specs.Turns.{note_of, met, spent, longer, waiting, at_turn, leaving, Has, KnowsRight, AreApart, entries_by}
use Rattle.ticket_lock.proofs.Prefixes.{itself, extended, longer_begins, begins_longer, other_begins_longer, by_between, by_others_added}

module _ {E F : Type 0} where
  -- how many tickets a seat waits with
  abbrev pub waits_of : View E F → ℕ
  waits_of v = cond v.waits 1 0

  pub idle_waits_with_none : (v : View E F) → v.waits ≡ false → waits_of v ≡ 0
  idle_waits_with_none v idle = ap (λ (b : Bool). cond {A = ℕ} b 1 0) idle

  pub waits_with_one : (v : View E F) → v.waits ≡ true → waits_of v ≡ 1
  waits_with_one v on = ap (λ (b : Bool). cond {A = ℕ} b 1 0) on

  -- a seat that stands for other numbers, and is the same else
  abbrev pub with_numbers : View E F → ℕ → ℕ → View E F
  with_numbers v from count = record v { from = from; count = count }

  no_number : (v : View E F) → v.count ≡ 0 → (n : ℕ) → Has v n → ⊥
  no_number v none n h = let low = h.0 in let high = h.1 in absurd (omega arith)

module _ {E F : Type 0} (by : E → ℕ) where
  abbrev pub Apart : View E F → View E F → Type 0
  Apart v w = AreApart by v w × AreApart by w v

  -- who stands for no number and waits for nothing is apart from all
  pub apart_of_none : (v w : View E F) → v.count ≡ 0 → v.waits ≡ false → Apart v w
  apart_of_none v w none idle = grind (arith, no_number, both_ways)

  -- w, which has no number that v has not, is apart from u as v is, if its ticket is another
  pub apart_by : (v w u : View E F) → Apart v u → ((n : ℕ) → Has w n → Has v n) → (w.waits ≡ true → u.waits ≡ true → w.ticket ≢ u.ticket) → Apart w u
  apart_by v w u was within fresh = grind arith

  -- so it is if it waits with the ticket of v, or not at all
  pub apart_kept : (v w u : View E F) → Apart v u → ((n : ℕ) → Has w n → Has v n) → (w.waits ≡ true → (v.waits ≡ true) × (w.ticket ≡ v.ticket)) → Apart w u
  apart_kept v w u was within kept = grind (arith, apart_by)

module _ {E F : Type 0} (by : E → ℕ) (served tickets : ℕ) (journal : List E) (fixed : F) where
  abbrev pub Knows : View E F → Type 0
  Knows v = KnowsRight by served tickets journal fixed v

  pub idle_has_no_turn : (v : View E F) → Knows v → v.waits ≡ false → v.turn ≡ false
  idle_has_no_turn v f idle = false_from_ne_true v.turn (λ on. both_ways v.waits idle (f.has_turn on).0)

  pub ticket_more : (v : View E F) → Knows v → KnowsRight by served (tickets + 1) journal fixed v
  ticket_more v f = grind arith

  pub knows_waiting : (v : View E F) → Knows v → v.waits ≡ false → served ≤ tickets → 0 < v.count → KnowsRight by served (tickets + 1) journal fixed (waiting v tickets)
  knows_waiting v f idle order door = grind (arith, both_ways, idle_has_no_turn)

  pub knows_at_turn : (v : View E F) (held : List E) → Knows v → v.waits ≡ true → v.ticket ≡ served → held ≡ journal → Knows (at_turn v held)
  knows_at_turn v held f on mine now = grind arith

  pub knows_leaving : (v : View E F) (seen : List E) → seen ≡ journal → IfSome v.fixed (λ f. f ≡ fixed) → Knows (leaving v seen)
  knows_leaving v seen now known = record {
    begins = subst (IsPrefix seen) now (itself seen);
    old_begins = itself seen;
    told_begins = (seen, refl);
    own = λ n _. ap (entries_by by n) (sym now);
    own_old = λ _ _. refl;
    waits_in = λ on. absurd (both_ways false refl on);
    has_turn = λ on. absurd (both_ways false refl on);
    fixed_is = known;
  }

  -- u, after v, whose ticket was served, left with entries of its own number added
  pub knows_others_left : (u v : View E F) (new : List E) → Knows u → AreApart by u v → v.waits ≡ true → v.ticket ≡ served → v.count ≡ 1 → All (λ e. by e ≡ v.from) new
      → KnowsRight by (served + 1) tickets (journal ++ new) fixed u
  knows_others_left u v new f apart on mine door all_own =
      let number : Has v v.from = (omega arith, omega arith) in record {
        begins = extended u.seen journal new f.begins;
        old_begins = f.old_begins;
        told_begins = f.told_begins;
        own_old = f.own_old;
        own = λ n h. by_others_added by n v.from journal new (λ same. apart.numbers n h (subst (Has v) same number)) all_own ∙ f.own n h;
        waits_in = λ waits. let was = f.waits_in waits in let not_mine = apart.tickets waits on in (omega (arith, was.0, mine), was.1, was.2);
        has_turn = λ turn. let was = f.has_turn turn in absurd (apart.tickets was.0 on (was.1 ∙ sym mine));
        fixed_is = f.fixed_is;
      }

  -- a seat that waits for nothing, with some of its numbers
  pub knows_with_numbers : (v : View E F) (from count : ℕ) → Knows v → v.waits ≡ false → ((n : ℕ) → Has (with_numbers v from count) n → Has v n) → Knows (with_numbers v from count)
  knows_with_numbers v from count f idle within = grind (arith, both_ways, idle_has_no_turn)

  pub knows_note : (v : View E F) → Knows v → Knows (note_of v)
  knows_note v f = grind (arith, no_number, both_ways)

  pub knows_met : (v u : View E F) → Knows v → Knows u → Knows (met v u)
  knows_met v u f theirs =
      let low = begins_longer v.seen u.seen journal f.begins theirs.begins in
      let top = longer_begins v.seen u.seen journal f.begins theirs.begins in record {
        begins = top;
        old_begins = low;
        told_begins = other_begins_longer v.seen u.seen journal f.begins theirs.begins;
        own = λ n h. by_between by n v.seen (longer v.seen u.seen) journal low top (f.own n h);
        own_old = λ n h. sym (by_between by n v.seen (longer v.seen u.seen) journal low top (f.own n h)) ∙ f.own n h;
        waits_in = f.waits_in;
        has_turn = f.has_turn;
        fixed_is = f.fixed_is;
      }

  pub knows_spent : Knows spent
  knows_spent = grind (arith, no_number, both_ways)
