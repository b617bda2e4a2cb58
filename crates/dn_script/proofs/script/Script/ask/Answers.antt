use Rattle.std.proofs.Common.{◌≡◌, ◌<◌, arith, length}
use Rattle.dn_message.specs.declared.kind.Kind.TheVariants as kinds
use Rattle.dn_message.specs.Kind.{kind_of}
use Rattle.dn_message.specs.Query.{IsQuery}
use Rattle.dn_world.specs.Datagram.{IsReadRightly}
use Rattle.dn_script.specs.Asking.{question_of}
use Rattle.dn_script.proofs.AskLemmas.{ask_done, ask_missing, value_is, value_there}
use Rattle.dn_script.proofs.script.Script.ask.Goals as goal

pub returns-then-at-len : goal.returns-then-at-len
returns-then-at-len c = ask_missing c.args.self.now c.args.replica.now c.in_ok-at.at c.in_ok-at.ensures c.args.name.now c.args.qtype (omega (arith, c.if-at-len.true, rw c.replicas.ensures at c.len.ensures))

pub value_in-requires : goal.value_in-requires
value_in-requires c =
    let within : c.in_ok-at.at < length c.args.self.now.world.replicas = omega (arith, c.if-at-len.false, rw c.replicas.ensures at c.len.ensures) in
    let request = c.split_at.result.0.now in
    let kind : kind_of request ≡ kinds.Query = rw c.split_at.ensures.front c.write_question-len.ensures.kind in
    let is : IsQuery request (question_of c.args.name.now c.args.qtype) = rw c.split_at.ensures.front c.write_question-len.ensures.query in
    let read : IsReadRightly c.args.self.now.world c.in_ok-at.at request c.split_at-2.result.0.now = rw c.split_at-2.ensures.front c.in_ok-len.ensures.read in
    value_there c.args.self.now.world c.in_ok-at.at within c.args.name.now c.args.qtype request c.split_at-2.result.0.now kind is read

pub returns : goal.returns
returns c =
    let within : c.in_ok-at.at < length c.args.self.now.world.replicas = omega (arith, c.if-at-len.false, rw c.replicas.ensures at c.len.ensures) in
    let request = c.split_at.result.0.now in
    let kind : kind_of request ≡ kinds.Query = rw c.split_at.ensures.front c.write_question-len.ensures.kind in
    let is : IsQuery request (question_of c.args.name.now c.args.qtype) = rw c.split_at.ensures.front c.write_question-len.ensures.query in
    let read : IsReadRightly c.args.self.now.world c.in_ok-at.at request c.split_at-2.result.0.now = rw c.split_at-2.ensures.front c.in_ok-len.ensures.read in
    ask_done c.args.self.now c.args.replica.now c.in_ok-at.at c.in_ok-at.ensures c.args.name.now c.args.qtype c.in_ok-value.value
    (value_is c.args.self.now.world c.in_ok-at.at within c.args.name.now c.args.qtype request c.split_at-2.result.0.now kind is read c.in_ok-value.value c.in_ok-value.ensures)
    c.datagram.new.self c.datagram.ensures.stays c.in_ok-reply_text.field-0 c.in_ok-reply_text.ensures
