use Rattle.gas_terms.proofs.Lines.{column_forward, row_forward, column_later, row_later}
use Rattle.gas_terms.proofs.history_laws.lines_keep_their_numbers.Goals as goal

pub returns-clause-columns : goal.returns-clause-columns
returns-clause-columns c = column_forward

pub returns-clause-rows : goal.returns-clause-rows
returns-clause-rows c = row_forward

pub returns-clause-later_columns : goal.returns-clause-later_columns
returns-clause-later_columns c = column_later

pub returns-clause-later_rows : goal.returns-clause-later_rows
returns-clause-later_rows c = row_later
