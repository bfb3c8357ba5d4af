use Rattle.gas_terms.proofs.Bytes.{length-row_bytes, row_bytes-are_bytes, row_has-row_bytes, has-row_replaced, row_bytes-row_replaced, row_replaced-row_bytes}
use Rattle.gas_terms.proofs.laws.rows_and_bytes_agree.Goals as goal

pub returns-clause-length : goal.returns-clause-length
returns-clause-length c = length-row_bytes

pub returns-clause-bytes : goal.returns-clause-bytes
returns-clause-bytes c = row_bytes-are_bytes

pub returns-clause-read : goal.returns-clause-read
returns-clause-read c = row_has-row_bytes

pub returns-clause-written : goal.returns-clause-written
returns-clause-written c = has-row_replaced

pub returns-clause-again : goal.returns-clause-again
returns-clause-again c = row_bytes-row_replaced

pub returns-clause-same : goal.returns-clause-same
returns-clause-same c = λ cells y full even. row_replaced-row_bytes cells y full even
