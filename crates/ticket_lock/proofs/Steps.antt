-- Each step keeps the rule of the lock.
use Rattle.std.proofs.Common.{◌≡◌, ◌≢◌, ℕ, zero, suc, ◌+◌, ◌-◌, ◌%◌, ◌^◌, ◌<◌, ◌≤◌, Bool, true, false, cond, eqb, List, [], ◌∷◌, ◌++◌, All, set, slice_index, sum_by, Option, Some, None, IfSome, MatchBool, refl, sym, ap, ◌∙◌, subst, inl, inr, ⊎_elim, arith, eq-eqb, ne_eqb}
use Rattle.std.proofs.lemmas.List.Sums.{sum_by_push}
use Rattle.std.proofs.lemmas.Bool.{false_from_ne_true, both_ways}
use mathlib.Core.Option as core
use mathlib.Core.List.{IsPrefix}
use mathlib.Core.Logic.{dite}
use native.Mathlib.Decide.{ℕ_discrete}
use lib.ListN.{get_elem?}
use Rattle.atomic_table.specs.Table.{State, Me, Act, Valid, keeps, takes, gives, put_back, rest, carried_after, step, stepped, Allows, Splits, Joins, opening}
use Rattle.atomic_table.proofs.Lists.{one_turn, set_again, set_else, set_here, at_set, at_longer}
use Rattle.ticket_lock.specs.declared.view.View.{View}
use Rattle.std.proofs.lemmas.Bool.Decides.{when_true}
use Rattle.ticket_lock.specs.Turns.{newcomer, less_one, first_door, note_of, met, spent, waiting, at_turn, leaving, Has, entries_by, KnowsRight, AreApart, Slot, Keeps, Enters, Served, Left, Ticketed, Looked}
use Rattle.ticket_lock.proofs.Views.{waits_of, idle_waits_with_none, waits_with_one, with_numbers, Apart, apart_of_none, apart_by, apart_kept, idle_has_no_turn, ticket_more, knows_waiting, knows_at_turn, knows_leaving, knows_others_left, knows_with_numbers, knows_note, knows_met, knows_spent}
use Rattle.ticket_lock.proofs.Places.{sum_set, sum_le, each_set, each_push, pairs_set, pairs_push, stands_at}

module _ {X E F : Type 0} (entries : X → List E) (fixed : X → F) (by : E → ℕ) (key : ℕ × F) where
  abbrev V : Type 0
  V = View E F

  abbrev K : State (Option X) V → Type 0
  K = Keeps entries fixed by key

  abbrev Fits : ℕ → ℕ → List E → V → Type 0
  Fits served tickets journal v = KnowsRight by served tickets journal key.1 v

  one_view : (P : V → Type 0) (v : V) → P v → (j : ℕ) (u : V) → get_elem? (v ∷ []) j ≡ core.some u → P u
  one_view P v p zero u e = subst P (core.some-injective _ _ e) p
  one_view P v p (suc j) u e = absurd (core.some-ne-none u (sym e))

  only_one : (R : V → V → Type 0) (v : V) (i j : ℕ) (u w : V) → i ≢ j → get_elem? (v ∷ []) i ≡ core.some u → get_elem? (v ∷ []) j ≡ core.some w → R u w
  only_one R v zero zero u w apart e h = absurd (apart refl)
  only_one R v zero (suc j) u w apart e h = absurd (core.some-ne-none w (sym h))
  only_one R v (suc i) j u w apart e h = absurd (core.some-ne-none u (sym e))

  pub opens : (x : X) → key.0 ≤ 64 → entries x ≡ [] → fixed x ≡ key.1 → K (opening (0 ∷ 0 ∷ []) (Some x ∷ []) (newcomer key.0 key.1))
  opens x few none same =
      let first = newcomer key.0 key.1 in record {
        served = 0;
        tickets = 0;
        journal = [];
        words_are = refl;
        tickets_out = omega arith;
        few_doors = omega arith;
        key_fits = few;
        slot = inl (x, refl, none, same, one_view (λ v. v.turn ≡ false) first refl);
        each = one_view (Fits 0 0 []) first (record {
          begins = ([], refl);
          old_begins = ([], refl);
          told_begins = ([], refl);
          own = λ _ _. refl;
          own_old = λ _ _. refl;
          waits_in = λ w. absurd (both_ways false refl w);
          has_turn = λ t. absurd (both_ways false refl t);
          fixed_is = refl;
        });
        apart = only_one (AreApart by) first;
      }

  -- at most as many tickets are out as there are doors
  tickets_few : (s : State (Option X) V) (r : K s) → r.tickets ≤ r.served + 64
  tickets_few s r =
      let a = r.tickets_out in
      let b = r.few_doors in
      let c = r.key_fits in
      let d = sum_le waits_of (λ v. v.count) s.views (λ j v e. one v (r.each j v e)) in
      omega arith
    where
      go : (b : Bool) (n : ℕ) → (b ≡ true → 0 < n) → cond b 1 0 ≤ n
      go true n h = let k = h refl in omega arith
      go false n h = omega arith

      one : (v : V) → Fits r.served r.tickets r.journal v → waits_of v ≤ v.count
      one v f = go v.waits v.count (λ w. (f.waits_in w).2)

  -- the slot, where a view keeps its turn
  slot_set : (homes : List (core.Option (Option X))) (views : List V) (journal : List E) (id : ℕ) (v w : V) → get_elem? views id ≡ core.some v → w.turn ≡ v.turn
      → Slot entries fixed by journal key.1 homes views → Slot entries fixed by journal key.1 homes (set views id w)
  slot_set homes views journal id v w at same = grind (arith, each_set, set_here views id w (stands_at views id v at).0, set_else)

  slot_push : (homes : List (core.Option (Option X))) (views : List V) (journal : List E) (u : V) → u.turn ≡ false
      → Slot entries fixed by journal key.1 homes views → Slot entries fixed by journal key.1 homes (views ++ u ∷ [])
  slot_push homes views journal u none =
      ⊎_elim
      (λ free. inl (free.0, free.1, free.2, free.3, each_push (λ (z : V). z.turn ≡ false) views u free.4 none))
      (λ held. inr (held.0, (held.1.0, held.1.1, at_longer views (u ∷ []) held.1.0 held.1.1 held.1.2, held.1.3)))

  apart_of : (s : State (Option X) V) (r : K s) (id : ℕ) (v : V) → get_elem? s.views id ≡ core.some v → (j : ℕ) (u : V) → j ≢ id
      → get_elem? s.views j ≡ core.some u → Apart by v u
  apart_of s r id v at j u other e = (r.apart id j v u (λ same. other (sym same)) at e, r.apart j id u v other e at)

  doors_after : (s : State (Option X) V) (r : K s) (id : ℕ) (v w : V) → get_elem? s.views id ≡ core.some v → w.count ≤ v.count
      → sum_by (λ (u : V). u.count) (set s.views id w) ≤ key.0
  doors_after s r id v w at no_more = let sum = sum_set (λ (u : V). u.count) s.views id v w at in let few = r.few_doors in omega arith

  -- What a step has to show of the one seat that it changes, and of what the others then know.
  record Changes (s : State (Option X) V) (r : K s) (id : ℕ) (v w : V) (served tickets : ℕ) (journal : List E) : Type 0 where
    tickets_out : served + waits_of w + r.tickets ≡ tickets + r.served + waits_of v
    no_more_doors : w.count ≤ v.count
    knows : Fits served tickets journal w
    others : (j : ℕ) (u : V) → j ≢ id → get_elem? s.views j ≡ core.some u → Fits served tickets journal u
    apart : (j : ℕ) (u : V) → j ≢ id → get_elem? s.views j ≡ core.some u → Apart by w u

  -- then the rule is kept, if words and slot are right
  kept : (s : State (Option X) V) (r : K s) (id : ℕ) (v w : V) (served tickets : ℕ) (journal : List E) (words : List ℕ) (homes : List (core.Option (Option X)))
      → get_elem? s.views id ≡ core.some v
      → Changes s r id v w served tickets journal → words ≡ (served % 2 ^ 64) ∷ (tickets % 2 ^ 64) ∷ [] → Slot entries fixed by journal key.1 homes (set s.views id w)
      → K (record { words = words; homes = homes; views = set s.views id w })
  kept s r id v w served tickets journal words homes at c are slot = record {
    served = served;
    tickets = tickets;
    journal = journal;
    words_are = are;
    tickets_out = let even = c.tickets_out in let sum = sum_set waits_of s.views id v w at in let out = r.tickets_out in omega arith;
    few_doors = doors_after s r id v w at c.no_more_doors;
    key_fits = r.key_fits;
    slot = slot;
    each = each_set (Fits served tickets journal) s.views id w c.others c.knows;
    apart = pairs_set (AreApart by) s.views id w r.apart c.apart;
  }

  draws : (s : State (Option X) V) (r : K s) (id : ℕ) (v : V) → get_elem? s.views id ≡ core.some v → v.waits ≡ false → 0 < v.count
      → Changes s r id v (waiting v r.tickets) r.served (r.tickets + 1) r.journal
  draws s r id v at idle door =
      let order : r.served ≤ r.tickets = let out = r.tickets_out in omega arith in record {
        tickets_out = let none = idle_waits_with_none v idle in omega arith;
        no_more_doors = omega arith;
        knows = knows_waiting by r.served r.tickets r.journal key.1 v (r.each id v at) idle order door;
        others = λ j u _ e. ticket_more by r.served r.tickets r.journal key.1 u (r.each j u e);
        apart = λ j u other e. apart_by by v (waiting v r.tickets) u (apart_of s r id v at j u other e) (λ _ h. h)
            (λ _ on same. let theirs = (r.each j u e).waits_in on in let drawn = theirs.1 in absurd (omega arith));
      }

  -- a door draws a ticket
  pub tickets_one : (slots id : ℕ) (me : Me (Option X) V) → me.0.waits ≡ false → 0 < me.0.count
      → Allows K slots id me 1 (λ n. (n + 1) % 2 ^ 64) (Ticketed {X = X} (step slots 1 1 0 core.none) me)
  tickets_one slots id me idle door s r long at small =
      let v = me.0 in
      let t = r.tickets in
      let w = waiting v t in
      let found : slice_index s.words 1 ≡ t % 2 ^ 64 = ap (λ ws. slice_index ws 1) r.words_are in
      let next : ((t % 2 ^ 64) + 1) % 2 ^ 64 ≡ (t + 1) % 2 ^ 64 = omega arith in
      let words = ap (λ (ws : List ℕ). set ws 1 ((slice_index ws 1 + 1) % 2 ^ 64)) r.words_are ∙ ap (λ n. (r.served % 2 ^ 64) ∷ n ∷ []) next in
      let slot = slot_set s.homes s.views r.journal id v w at refl r.slot in (
        w,
        keeps,
        tt,
        kept s r id v w r.served (t + 1) r.journal (set s.words 1 ((slice_index s.words 1 + 1) % 2 ^ 64)) s.homes at
            (draws s r id v at idle door) words slot,
        (t, sym found, refl),
      )

  same_fixed : (o : Option F) (f : F) → f ≡ key.1 → IfSome o (λ g. g ≡ key.1) → IfSome o (λ g. f ≡ g)
  same_fixed None f e h = h
  same_fixed (Some g) f e h = e ∙ sym h

  word_stays : (s : State (Option X) V) → K s → set s.words 0 (slice_index s.words 0) ≡ s.words
  word_stays s r = ap (λ (ws : List ℕ). set ws 0 (slice_index ws 0)) r.words_are ∙ sym r.words_are

  -- a step that changes neither word nor view
  unchanged : (s : State (Option X) V) → K s → (i id : ℕ) (c : List (ℕ × Option X)) (v : V) → get_elem? s.views id ≡ core.some v
      → set s.words i (slice_index s.words i) ≡ s.words
      → K (stepped s i (slice_index s.words i) id c v keeps)
  unchanged s r i id c v at still = grind (arith, set_again)

  -- the slot is at home for the one whose ticket is served, unless that one has it already
  home_for : (s : State (Option X) V) (r : K s) (id : ℕ) (v : V) → get_elem? s.views id ≡ core.some v → v.waits ≡ true → v.turn ≡ false → v.ticket ≡ r.served
      → (x : X) × (s.homes ≡ core.some (Some x) ∷ []) × (entries x ≡ r.journal) × (fixed x ≡ key.1) × ((i : ℕ) (u : V) → get_elem? s.views i ≡ core.some u → u.turn ≡ false)
  home_for s r id v at on idle mine =
      ⊎_elim
      (λ free. free)
      (λ held. let i = held.1.0 in let u = held.1.1 in let there = held.1.2 in let has = held.1.3 in
      dite (ℕ_discrete i id)
      (λ e.
      let is : v ≡ u = core.some-injective v u (sym at ∙ (ap (get_elem? s.views) (sym e) ∙ there)) in
      absurd (both_ways v.turn idle (ap (λ (z : V). z.turn) is ∙ has)))
      (λ other. let theirs = (r.each i u there).has_turn has in absurd ((r.apart i id u v other there at).tickets theirs.0 on (theirs.1 ∙ sym mine))))
      r.slot

  takes_turn : (s : State (Option X) V) (r : K s) (id : ℕ) (v : V) (held : List E) → get_elem? s.views id ≡ core.some v → v.waits ≡ true
      → v.ticket ≡ r.served → held ≡ r.journal
      → Changes s r id v (at_turn v held) r.served r.tickets r.journal
  takes_turn s r id v held at on mine now = record {
    tickets_out = omega arith;
    no_more_doors = omega arith;
    knows = knows_at_turn by r.served r.tickets r.journal key.1 v held (r.each id v at) on mine now;
    others = λ j u _ e. r.each j u e;
    apart = λ j u other e. apart_kept by v (at_turn v held) u (apart_of s r id v at j u other e) (λ _ h. h) (λ _. (on, refl));
  }

  -- what a door that takes the value learns of it
  learns : (s : State (Option X) V) (r : K s) (id : ℕ) (me : Me (Option X) V) (x : X) → get_elem? s.views id ≡ core.some me.0 → entries x ≡ r.journal → fixed x ≡ key.1
      → Enters entries fixed by me (at_turn me.0 (entries x), (0, Some x) ∷ me.1)
  learns s r id me x at now same =
      let mine = r.each id me.0 at in
      let own : (number : ℕ) → Has me.0 number → entries_by by number (entries x) ≡ entries_by by number me.0.seen = λ number has. ap (entries_by by number) now ∙ mine.own number has in
      (x, refl, subst (IsPrefix me.0.seen) (sym now) mine.begins, own, same_fixed me.0.fixed (fixed x) same mine.fixed_is)

  -- a door finds its ticket served, and takes the value
  served_now : (s : State (Option X) V) (r : K s) (id : ℕ) (me : Me (Option X) V) → get_elem? s.views id ≡ core.some me.0 → me.0.waits ≡ true
      → me.0.turn ≡ false → slice_index s.words 0 ≡ r.served % 2 ^ 64
      → slice_index s.words 0 ≡ me.0.ticket % 2 ^ 64
      → (w : V) × (a : Act (Option X)) × Valid s.homes me.1 a × K (stepped s 0 (slice_index s.words 0) id me.1 w a) × Served entries fixed by (step 1 0 0 0 core.none) me (slice_index s.words 0) (w, carried_after me.1 a)
  served_now s r id me at on idle found hit =
      let v = me.0 in
      let words = r.words_are in
      let inside = (r.each id v at).waits_in on in
      let few = tickets_few s r in
      let served : r.served ≡ v.ticket = one_turn r.served v.ticket (2 ^ 64) inside.0 (omega arith) (sym found ∙ hit) in
      let home = home_for s r id v at on idle (sym served) in
      let x = home.0 in
      let w = at_turn v (entries x) in
      let slot = inr (ap (λ hs. set hs 0 core.none) home.1, (id, w, set_here s.views id w (stands_at s.views id v at).0, refl)) in
      let P : Bool → Type 0 = λ b. MatchBool b (Enters entries fixed by me (w, (0, Some x) ∷ me.1)) ((w, (0, Some x) ∷ me.1) ≡ me) in (
        w,
        takes 0 (Some x),
        ap (λ hs. get_elem? hs 0) home.1,
        kept s r id v w r.served r.tickets r.journal (set s.words 0 (slice_index s.words 0)) (set s.homes 0 core.none) at
            (takes_turn s r id v (entries x) at on (sym served) home.2) (word_stays s r ∙ words) slot,
        subst P (sym (eq-eqb (slice_index s.words 0) (v.ticket % 2 ^ 64) hit)) (learns s r id me x at home.2 home.3),
      )

  -- a door reads which ticket is served, and takes the value at its turn
  pub serves : (slots id : ℕ) (me : Me (Option X) V) → me.0.waits ≡ true → me.0.turn ≡ false
      → Allows K slots id me 0 (λ n. n) (Served entries fixed by (step slots 0 0 0 core.none) me)
  serves slots id me on idle s r long at small =
      let v = me.0 in
      let found : slice_index s.words 0 ≡ r.served % 2 ^ 64 = ap (λ ws. slice_index ws 0) r.words_are in
      dite (ℕ_discrete (slice_index s.words 0) (v.ticket % 2 ^ 64))
      (served_now s r id me at on idle found)
      (λ miss. (
        v,
        keeps,
        tt,
        unchanged s r 0 id me.1 v at (word_stays s r),
        (let P : Bool → Type 0 = λ b. MatchBool b (Enters entries fixed by me me) (me ≡ me) in subst P (sym (ne_eqb (slice_index s.words 0) (v.ticket % 2 ^ 64) miss)) refl),
      ))

  -- a door looks at what it was told
  pub looks : (slots id : ℕ) (me : Me (Option X) V) → Allows K slots id me 0 (λ n. n) (Looked entries fixed by (step slots 0 0 0 core.none) me)
  looks slots id me s r long at small =
      let mine = r.each id me.0 at in
      (me.0, keeps, tt, unchanged s r 0 id me.1 me.0 at (word_stays s r), (refl, mine.old_begins, mine.told_begins, mine.own_old))

  gives_back : (s : State (Option X) V) (r : K s) (id : ℕ) (v : V) (seen new : List E) → get_elem? s.views id ≡ core.some v → v.turn ≡ true
      → v.count ≡ 1 → seen ≡ r.journal ++ new
      → All (λ e. by e ≡ v.from) new → Changes s r id v (leaving v seen) (r.served + 1) r.tickets (r.journal ++ new)
  gives_back s r id v seen new at turn door now all_own =
      let mine = r.each id v at in
      let on = (mine.has_turn turn).0 in
      let served = (mine.has_turn turn).1 in record {
        tickets_out = let one = waits_with_one v on in omega arith;
        no_more_doors = omega arith;
        knows = knows_leaving by (r.served + 1) r.tickets (r.journal ++ new) key.1 v seen now mine.fixed_is;
        others = λ j u other e. knows_others_left by r.served r.tickets r.journal key.1 u v new (r.each j u e) (r.apart j id u v other e at) on served door all_own;
        apart = λ j u other e. apart_kept by v (leaving v seen) u (apart_of s r id v at j u other e) (λ _ h. h) (λ waits. absurd (both_ways false refl waits));
      }

  -- one seat has the turn
  no_other_turn : (s : State (Option X) V) (r : K s) (id : ℕ) (v : V) → get_elem? s.views id ≡ core.some v → v.turn ≡ true → (j : ℕ) (u : V) → j ≢ id
      → get_elem? s.views j ≡ core.some u → u.turn ≡ false
  no_other_turn s r id v at turn j u other e =
      let mine = (r.each id v at).has_turn turn in
      false_from_ne_true u.turn (λ on. let theirs = (r.each j u e).has_turn on in (r.apart j id u v other e at).tickets theirs.0 mine.0 (theirs.1 ∙ sym mine.1))

  comes_home : (s : State (Option X) V) (r : K s) (carried : List (ℕ × Option X)) (x : X) → carried ≡ (0, Some x) ∷ []
      → put_back s.homes carried ≡ core.some (Some x) ∷ []
  comes_home s r carried x has = grind arith

  same_carried : (a b : Option X) (xs ys : List (ℕ × Option X)) → ◌≡◌ {A = List (ℕ × Option X)} ((0, a) ∷ xs) ((0, b) ∷ ys) → a ≡ b
  same_carried a b xs ys lists = grind arith

  -- a door leaves: the value that it gives back has the journal that it took, with entries of its number added
  pub leaves : (slots id : ℕ) (me : Me (Option X) V) (x : X) (new : List E) (f : F) → me.1 ≡ (0, Some x) ∷ [] → me.0.turn ≡ true → me.0.count ≡ 1
      → entries x ≡ me.0.held ++ new
      → All (λ e. by e ≡ me.0.from) new → me.0.fixed ≡ Some f → fixed x ≡ f
      → Allows K slots id me 0 (λ n. (n + 1) % 2 ^ 64) (Left entries fixed by (step slots 0 1 0 core.none) me)
  leaves slots id me x new f has turn door extends all_own knows same s r long at small =
      let v = me.0 in
      let mine = r.each id v at in
      let now : entries x ≡ r.journal ++ new = extends ∙ ap (λ l. l ++ new) (mine.has_turn turn).2 in
      let w = leaving v (entries x) in
      let next : ((r.served % 2 ^ 64) + 1) % 2 ^ 64 ≡ (r.served + 1) % 2 ^ 64 = omega arith in
      let words = ap (λ (ws : List ℕ). set ws 0 ((slice_index ws 0 + 1) % 2 ^ 64)) r.words_are ∙ ap (λ n. n ∷ (r.tickets % 2 ^ 64) ∷ []) next in
      let key_is : f ≡ key.1 = let P : Option F → Type 0 = λ o. IfSome o (λ g. g ≡ key.1) in subst P knows mine.fixed_is in
      let no_turns = each_set (λ (u : V). u.turn ≡ false) s.views id w (no_other_turn s r id v at turn) refl in
      let change = gives_back s r id v (entries x) new at turn door now all_own in (
        w,
        gives,
        tt,
        kept s r id v w (r.served + 1) r.tickets (r.journal ++ new) (set s.words 0 ((slice_index s.words 0 + 1) % 2 ^ 64)) (put_back s.homes me.1) at change words
            (inl (x, comes_home s r me.1 x has, now, same ∙ key_is, no_turns)),
        (λ y h.
            let option : Some x ≡ Some y = same_carried (Some x) (Some y) [] [] (sym has ∙ h) in
            let one : x ≡ y = cc (option) in
            λ i. (leaving v (entries (one i)), rest (has i))),
      )

  -- a seat is cut in two, of which the second waits for nothing
  splits : (s : State (Option X) V) (r : K s) (id : ℕ) (v w u : V) → get_elem? s.views id ≡ core.some v
      → Changes s r id v w r.served r.tickets r.journal → w.turn ≡ v.turn → w.count + u.count ≤ v.count
      → u.waits ≡ false → Fits r.served r.tickets r.journal u → ((j : ℕ) (y : V) → j ≢ id → get_elem? s.views j ≡ core.some y → Apart by u y) → Apart by u w
      → K (record { words = s.words; homes = s.homes; views = set s.views id w ++ u ∷ [] })
  splits s r id v w u at c turn room idle knows apart each_other =
      let views = set s.views id w in
      let no_turn = idle_has_no_turn by r.served r.tickets r.journal key.1 u knows idle in record {
        served = r.served;
        tickets = r.tickets;
        journal = r.journal;
        words_are = r.words_are;
        tickets_out =
            let even = c.tickets_out in
            let none = idle_waits_with_none u idle in
            let sum = sum_set waits_of s.views id v w at in
            let push = sum_by_push waits_of views u in
            let out = r.tickets_out in
            omega arith;
        few_doors =
            let sum = sum_set (λ (y : V). y.count) s.views id v w at in
            let push = sum_by_push (λ (y : V). y.count) views u in
            let few = r.few_doors in
            omega arith;
        key_fits = r.key_fits;
        slot = slot_push s.homes views r.journal u no_turn (slot_set s.homes s.views r.journal id v w at turn r.slot);
        each = each_push (Fits r.served r.tickets r.journal) views u (each_set (Fits r.served r.tickets r.journal) s.views id w c.others c.knows) knows;
        apart = pairs_push (AreApart by) views u (pairs_set (AreApart by) s.views id w r.apart c.apart) (λ j y e.
            ⊎_elim
            (λ (t : (j ≡ id) × (w ≡ y)). subst (Apart by u) t.1 each_other)
            (λ (t : (j ≢ id) × (get_elem? s.views j ≡ core.some y)). apart j y t.0 t.1)
            (at_set s.views id j w y e));
      }

  -- a seat that waits for nothing keeps some of its numbers
  keeps_numbers : (s : State (Option X) V) (r : K s) (id : ℕ) (v : V) (from count : ℕ) → get_elem? s.views id ≡ core.some v → v.waits ≡ false → count ≤ v.count
      → ((n : ℕ) → Has (with_numbers v from count) n → Has v n) → Changes s r id v (with_numbers v from count) r.served r.tickets r.journal
  keeps_numbers s r id v from count at idle no_more within = record {
    tickets_out = omega arith;
    no_more_doors = no_more;
    knows = knows_with_numbers by r.served r.tickets r.journal key.1 v from count (r.each id v at) idle within;
    others = λ j u _ e. r.each j u e;
    apart = λ j u other e. apart_kept by v (with_numbers v from count) u (apart_of s r id v at j u other e) within (λ on. (on, refl));
  }

  -- a door beside a door
  pub splits_door : (id : ℕ) (v : V) → v.waits ≡ false → 1 < v.count → Splits K id v (less_one v) (first_door v)
  splits_door id v idle room s r at =
      let later : (n : ℕ) → Has (less_one v) n → Has v n = λ n h. let low = h.0 in let top = h.1 in (omega arith, omega arith) in
      let first : (n : ℕ) → Has (first_door v) n → Has v n = λ n h. let low = h.0 in let top = h.1 in (omega arith, omega arith) in
      let rest_keeps = keeps_numbers s r id v (v.from + 1) (v.count - 1) at idle (omega arith) later in
      let first_keeps = keeps_numbers s r id v v.from 1 at idle (omega arith) first in
      let each_other : Apart by (first_door v) (less_one v) = (
        record { numbers = λ n mine theirs. let high = mine.1 in let low = theirs.0 in absurd (omega arith); tickets = λ on _. absurd (both_ways v.waits idle on) },
        record { numbers = λ n theirs mine. let high = mine.1 in let low = theirs.0 in absurd (omega arith); tickets = λ _ on. absurd (both_ways v.waits idle on) },
      ) in
      splits s r id v (less_one v) (first_door v) at rest_keeps refl (omega arith) idle first_keeps.knows first_keeps.apart each_other

  -- a note beside a door
  pub splits_note : (id : ℕ) (v : V) → Splits K id v v (note_of v)
  splits_note id v s r at =
      let mine = r.each id v at in
      let nothing_new : Changes s r id v v r.served r.tickets r.journal = record {
        tickets_out = omega arith;
        no_more_doors = omega arith;
        knows = mine;
        others = λ j u _ e. r.each j u e;
        apart = apart_of s r id v at;
      } in
      let note = knows_note by r.served r.tickets r.journal key.1 v mine in
      splits s r id v v (note_of v) at nothing_new refl (omega arith) refl note (λ j y _ _. apart_of_none by (note_of v) y refl refl)
      (apart_of_none by (note_of v) v refl refl)

  takes_note_in : (s : State (Option X) V) (r : K s) (id : ℕ) (v u : V) → get_elem? s.views id ≡ core.some v → Fits r.served r.tickets r.journal u
      → Changes s r id v (met v u) r.served r.tickets r.journal
  takes_note_in s r id v u at theirs = record {
    tickets_out = omega arith;
    no_more_doors = omega arith;
    knows = knows_met by r.served r.tickets r.journal key.1 v u (r.each id v at) theirs;
    others = λ j y _ e. r.each j y e;
    apart = λ j y other e. apart_kept by v (met v u) y (apart_of s r id v at j y other e) (λ _ h. h) (λ on. (on, refl));
  }

  is_spent : (s : State (Option X) V) (r : K s) (id : ℕ) (v : V) → get_elem? s.views id ≡ core.some v → v.waits ≡ false
      → Changes s r id v spent r.served r.tickets r.journal
  is_spent s r id v at idle = record {
    tickets_out = let none = idle_waits_with_none v idle in omega arith;
    no_more_doors = omega arith;
    knows = knows_spent by r.served r.tickets r.journal key.1;
    others = λ j u _ e. r.each j u e;
    apart = λ j u _ _. apart_of_none by spent u refl refl;
  }

  -- a seat changes and keeps its turn, words and slot stay
  changes_alone : (s : State (Option X) V) (r : K s) (id : ℕ) (v w : V) → get_elem? s.views id ≡ core.some v → w.turn ≡ v.turn
      → Changes s r id v w r.served r.tickets r.journal
      → K (record { words = s.words; homes = s.homes; views = set s.views id w })
  changes_alone s r id v w at turn c =
      kept s r id v w r.served r.tickets r.journal s.words s.homes at c r.words_are (slot_set s.homes s.views r.journal id v w at turn r.slot)

  -- a door takes in a note
  pub meets : (id : ℕ) (v : V) (other : ℕ) (u : V) → u.waits ≡ false → Joins K id v other u (met v u) spent
  meets id v other u idle s r at apart there =
      let w = met v u in
      let was_there = ⊎_elim (λ (t : (other ≡ id) × (w ≡ u)). absurd (apart t.0)) (λ (t : (other ≢ id) × (get_elem? s.views other ≡ core.some u)). t.1) (at_set s.views id other w u there) in
      let met_state : State (Option X) V = record { words = s.words; homes = s.homes; views = set s.views id w } in
      let m : K met_state = changes_alone s r id v w at refl (takes_note_in s r id v u at (r.each other u was_there)) in
      let no_turn = idle_has_no_turn by m.served m.tickets m.journal key.1 u (m.each other u there) idle in
      changes_alone met_state m other u spent there (sym no_turn) (is_spent met_state m other u there idle)

  -- the same for a seat that has just put the value into the slot that it holds
  pub leaves_with : (slots id : ℕ) (before me : Me (Option X) V) (x : X) (new : List E) → me ≡ (before.0, (0, Some x) ∷ rest before.1)
      → before.1 ≡ (0, None) ∷ [] → before.0.turn ≡ true → before.0.count ≡ 1
      → entries x ≡ before.0.held ++ new → All (λ e. by e ≡ before.0.from) new → before.0.fixed ≡ Some (fixed x)
      → Allows K slots id me 0 (λ n. (n + 1) % 2 ^ 64) (Left entries fixed by (step slots 0 1 0 core.none) me)
  leaves_with slots id before me x new is empty turn door extends all_own knows =
      let put : me ≡ (before.0, (0, Some x) ∷ []) = is ∙ ap (λ (c : List (ℕ × Option X)). (before.0, (0, Some x) ∷ rest c)) empty in
      let P : Me (Option X) V → Type 0 = λ m. Allows K slots id m 0 (λ n. (n + 1) % 2 ^ 64) (Left entries fixed by (step slots 0 1 0 core.none) m) in
      subst P (sym put) (leaves slots id (before.0, (0, Some x) ∷ []) x new (fixed x) refl turn door extends all_own knows refl)

  -- the number found is the ticket's, so the seat took the value
  pub takes_at : (v : V) (ticket found : ℕ) (before after : Me (Option X) V) → before ≡ (waiting v ticket, []) → found ≡ ticket % 2 ^ 64
      → MatchBool (eqb found (before.0.ticket % 2 ^ 64)) (Enters entries fixed by before after) (after ≡ before) → Enters entries fixed by (waiting v ticket, []) after
  takes_at v ticket found before after is hit tells = grind (arith, eqb, when_true, eq-eqb)
