use Rattle.dn_record.proofs.LayoutLemmas.{record_once, spelled_once}
use Rattle.dn_record.proofs.laws.stored_records_are_spelled_once.Goals as goal

pub returns-clause-read : goal.returns-clause-read
returns-clause-read c = record_once

pub returns-clause-written : goal.returns-clause-written
returns-clause-written c = spelled_once
