-- How many reads gave the input so far, and how many are left.
use Rattle.std.proofs.Common.{◌≡◌, ◌≢◌, ℕ, ◌+◌, ◌*◌, ◌<◌, ◌≤◌, nat_lt, true, false, List, [], ◌++◌, length, None, refl, sym, append-nil, arith, length-append}
use Rattle.std.proofs.lemmas.Bool.Decides.{nat_tests}
use Rattle.gas_talk.specs.declared.end.SessionEnd.{SessionEnd}
use Rattle.gas_talk.specs.declared.end.SessionEnd.TheVariants.{InputEnd, ReadFault, TooManyReads}
use Rattle.gas_terms.specs.Cells.{Extent}
use Rattle.gas_talk.specs.Lines.{lines}
use Rattle.gas_talk.specs.Ends.{ending, read_limit, most_reads, empty_reads, AreReads, StopsAtEnd}

-- each of them gave a byte at least
pub record Counts (count left : ℕ) (input : List ℕ) : Type 0 where
  pub whole : count + left ≡ most_reads
  pub some : count ≤ length input
  pub short : length input ≤ read_limit * count

pub none_yet : (left : ℕ) → left ≡ most_reads → Counts 0 left []
none_yet left all = record { whole = omega (arith, all); some = omega arith; short = omega arith }

pub one_more : (count left left' n : ℕ) (input more : List ℕ) → Counts count left input → left' + 1 ≡ left → length more ≡ n → n ≤ read_limit → 0 < n
    → Counts (count + 1) left' (input ++ more)
one_more count left left' n input more c spent len few some = record {
  whole = omega (arith, c.whole, spent);
  some = omega (arith, length-append input more, c.some, len, some);
  short = omega (arith, length-append input more, c.short, len, few);
}

-- an end at which no read was empty
none_empty : (end : SessionEnd) → end ≢ InputEnd → end ≢ ReadFault → empty_reads end ≡ 0
none_empty InputEnd h f = absurd (h refl)
none_empty ReadFault h f = absurd (f refl)
none_empty _ h f = refl

-- an end at which each read gave something
pub after_read : (count left : ℕ) (input : List ℕ) (end : SessionEnd) → Counts count left input
    → end ≢ TooManyReads → end ≢ InputEnd → end ≢ ReadFault → AreReads count input end
after_read count left input end c other no_end no_fault =
    let none = none_empty end no_end no_fault in
    record {
      few = omega (arith, c.whole);
      some = omega (arith, none, c.some);
      short = omega (arith, none, c.short);
      all = λ wrong. absurd (other wrong);
    }

-- an end at which another read gave nothing
pub after_nothing : (count left : ℕ) (input : List ℕ) (end : SessionEnd) → Counts count left input → nat_lt 0 left ≡ true
    → end ≢ TooManyReads → empty_reads end ≡ 1 → AreReads (count + 1) input end
after_nothing count left input end c more other one =
    let one_left : 0 < left = grind (arith, nat_tests) in
    record {
      few = omega (arith, c.whole, one_left);
      some = omega (arith, one, c.some);
      short = omega (arith, one, c.short);
      all = λ wrong. absurd (other wrong);
    }

-- the end where none is left
pub after_all : (count left : ℕ) (input : List ℕ) → Counts count left input → nat_lt 0 left ≡ false → AreReads count input TooManyReads
after_all count left input c none =
    let none_left : left ≡ 0 = grind (arith, nat_tests) in
    record {
      few = omega (arith, c.whole);
      some = omega (arith, c.some);
      short = omega (arith, c.short);
      all = λ end. omega (arith, c.whole, none_left);
    }

-- no read was made yet
pub stops_at_start : (size : Extent) → ending size (lines []) ≡ None → StopsAtEnd size 0 []
stops_at_start size none = record { before = []; last = []; parts = refl; earlier = omega arith; short = omega arith; unended = none }

-- one more read, where no line ended the session before it
pub stops_at_read : (size : Extent) (count left n : ℕ) (input more : List ℕ) → Counts count left input → ending size (lines input) ≡ None → length more ≡ n → n ≤ read_limit
    → StopsAtEnd size (count + 1) (input ++ more)
stops_at_read size count left n input more c none len few = record {
  before = input;
  last = more;
  parts = refl;
  earlier = omega (arith, c.some);
  short = omega (arith, len, few);
  unended = none;
}

-- one more read that failed
pub stops_at_fault : (size : Extent) (count left : ℕ) (input : List ℕ) → Counts count left input → ending size (lines input) ≡ None → StopsAtEnd size (count + 1) input
stops_at_fault size count left input c none = record {
  before = input;
  last = [];
  parts = sym (append-nil input);
  earlier = omega (arith, c.some);
  short = omega arith;
  unended = none;
}
