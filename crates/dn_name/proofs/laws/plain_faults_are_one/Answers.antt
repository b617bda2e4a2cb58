use Rattle.std.proofs.Common.{refl, arith}
use Rattle.dn_name.proofs.PlainFaultLemmas.{no_name, one_plain}
use Rattle.dn_name.proofs.laws.plain_faults_are_one.Goals as goal

pub returns-clause-one : goal.returns-clause-one
returns-clause-one c = λ message at place other kind another left right. one_plain message refl refl left right

pub returns-clause-none : goal.returns-clause-none
returns-clause-none c = λ message at place kind name rest fault named stands. no_name message fault name rest named.0 (omega (arith, named.1)) stands
