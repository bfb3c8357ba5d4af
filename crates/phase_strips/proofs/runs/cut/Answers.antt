use Rattle.std.proofs.Common.{◌≡◌, ◌+◌, ◌/◌, ◌++◌, ◌∷◌, [], List, All, map, length, get_or, sym, ap, ◌∙◌, subst, arith, inl, inr}
use Rattle.std.proofs.lemmas.Bool.{cases_lt}
use Rattle.std.proofs.lemmas.List.{map_push, length_push, length-map, get_or_push, get_or_append_left}
use Rattle.std.proofs.lemmas.List.Elements.{All-push}
use Rattle.phase_strips.specs.Strips.{IsOf, own_at}
use Rattle.phase_strips.specs.declared.runs.strip.OwnRows.{OwnRows}
use Rattle.phase_strips.specs.declared.runs.strip.Strip.{Strip}
use Rattle.phase_strips.proofs.runs.cut.Goals as goal

pub loop-k-preserved : goal.loop-k-preserved
loop-k-preserved c =
    let was = c.loop-k.invariant in
    let k = c.loop-k.k in
    let strip = c.in_ok-strip.strip in
    let old = c.loop-k.strips.items in
    let items = c.push_reserved.ensures.items in
    let owns = map (λ (s : Strip). s.own) old in
    let all : map (λ (s : Strip). s.own) c.push_reserved.new.self.items ≡ owns ++ strip.own ∷ [] = ap (map (λ (s : Strip). s.own)) items ∙ map_push (λ (s : Strip). s.own) old strip in
    let count : length owns ≡ k = length-map old (λ (s : Strip). s.own) ∙ was.len in
    let down : c.from-down.result ≡ c.args.size.height / 64 = c.from-down.ensures ∙ ap (λ n. n / 64) c.height.ensures in
    record {
      each = subst (All (IsOf c.args.size)) (sym items) (All-push (IsOf c.args.size) old strip was.each c.in_ok-strip.ensures.0);
      own = λ j d less. ap (λ (os : List OwnRows). get_or os j d) all ∙ elim (cases_lt j k) [
        | inl before ↦ get_or_append_left owns (strip.own ∷ []) d j (omega (arith, count, before)) ∙ was.own j d before
        | inr past ↦
            let here : j ≡ k = omega (arith, past, less) in
            get_or_push owns strip.own d j (count ∙ sym here)
            ∙ (c.in_ok-strip.ensures.1 ∙ (ap (λ d. own_at d c.args.count k) down ∙ ap (own_at (c.args.size.height / 64) c.args.count) (sym here)))
      ];
      len = ap length items ∙ (length_push old strip ∙ ap (λ n. n + 1) was.len);
      room = c.push_reserved.ensures.capacity ∙ was.room;
    }
