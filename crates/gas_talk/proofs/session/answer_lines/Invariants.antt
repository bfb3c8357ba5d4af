use Rattle.std.proofs.Common.{ℕ, List}
use Rattle.gas_talk.specs.Private.{kept_len, Progress}
use Rattle.gas_talk.specs.Ends.{Place, place}
use Rattle.gas_talk.specs.Talk.{calls}
use Rattle.gas_talk.proofs.session.answer_lines.Given as goal

-- what was progress at the call is so still
abbrev pub invariant-lines : goal.invariant-lines
invariant-lines g l =
    (input : List ℕ) (from : Place _)
    → Progress (calls g.D.Door.size_of g.D.Door.asks g.D.Door.copies) input from l.fn.lines
    (place l.fn.door (g.W.Write.contents l.fn.writer) (g.K.Shelf.failures l.fn.shelf) (g.K.Shelf.shelved l.fn.shelf))
    → Progress (calls g.D.Door.size_of g.D.Door.asks g.D.Door.copies) input from l.lines
    (place l.door (g.W.Write.contents l.writer) (g.K.Shelf.failures l.shelf) (g.K.Shelf.shelved l.shelf))

abbrev pub decreases-lines : goal.decreases-lines
decreases-lines g l = kept_len l.lines
