use Rattle.std.proofs.Common.{◌≡◌, ℕ, ◌+◌, List, None}
use Rattle.std.specs.Io.KnownBytes.{Consumes}
use Rattle.gas_talk.specs.Ends.{place, StopsAtEnd}
use Rattle.gas_talk.specs.Private.{AnswersLines}
use Rattle.gas_talk.specs.Talk.{calls}
use Rattle.gas_talk.proofs.Counting.{Counts}
use Rattle.gas_talk.proofs.session.session.Given as goal

-- each line of what was read is answered, and each read is counted
abbrev pub invariant-loop-reads : goal.invariant-loop-reads
invariant-loop-reads g l =
    (input : List ℕ) × Consumes (g.R.Read.remaining l.fn.reader) (g.R.Read.remaining l.reads.reader.now) input
    × AnswersLines (calls g.D.Door.size_of g.D.Door.asks g.D.Door.copies) input
    (place l.fn.door (g.W.Write.contents l.fn.writer) (g.K.Shelf.failures l.fn.shelf) (g.K.Shelf.shelved l.fn.shelf))
    None l.lines
    (place l.door (g.W.Write.contents l.writer) (g.K.Shelf.failures l.shelf) (g.K.Shelf.shelved l.shelf))
    × (count : ℕ) × Counts count l.reads.left input × (l.reads.reader.ghost_name ≡ l.initial.reads.reader.ghost_name)
    × (l.reads.count.now ≡ l.fn.count + count) × (l.reads.count.ghost_name ≡ l.initial.reads.count.ghost_name)
    × StopsAtEnd (g.D.Door.size_of l.fn.door) count input

abbrev pub decreases-loop-reads : goal.decreases-loop-reads
decreases-loop-reads g l = l.reads.left
