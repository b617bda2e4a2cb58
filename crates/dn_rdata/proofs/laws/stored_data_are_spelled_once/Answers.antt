use Rattle.dn_rdata.proofs.StoredLemmas.{data_stored, stored_read, stored_sized, stored_valid, stored_written}
use Rattle.dn_rdata.proofs.laws.stored_data_are_spelled_once.Goals as goal

pub returns-clause-read : goal.returns-clause-read
returns-clause-read c = stored_read

pub returns-clause-written : goal.returns-clause-written
returns-clause-written c = stored_written

pub returns-clause-valid : goal.returns-clause-valid
returns-clause-valid c = stored_valid

pub returns-clause-any : goal.returns-clause-any
returns-clause-any c = data_stored

pub returns-clause-sized : goal.returns-clause-sized
returns-clause-sized c = stored_sized
