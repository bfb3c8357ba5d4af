use Rattle.gas_lab.proofs.Keeping.{kept_at_opening}
use Rattle.gas_ledger.specs.Books.{books_of}
use Rattle.gas_lab.proofs.lab.Lab.open.Goals as goal

pub invariant_of-result : goal.invariant_of-result
invariant_of-result g c =
    kept_at_opening c.args.start c.args.cap (books_of c.in_ok-books.books) c.new.result.items c.size.ensures.sound.particles c.size.ensures.sound.tick c.requires.cap
    c.in_ok-books.ensures c.new.ensures.items
