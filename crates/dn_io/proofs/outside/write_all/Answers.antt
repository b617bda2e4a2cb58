use Rattle.std.proofs.Common.{◌<◌, ◌∙◌, length, rules}
use Rattle.dn_io.proofs.PieceLemmas.{appended-more, appended-nothing}
use Rattle.dn_io.proofs.outside.write_all.Goals as goal

pub loop-rest-preserved : goal.loop-rest-preserved
loop-rest-preserved g c =
    let some : 0 < length c.loop-rest.rest.now = search rules in
    record {
      appended =
          appended-more (g.K.Sink.written c.args.sink.now) (g.K.Sink.written c.loop-rest.sink) (g.K.Sink.written c.write_some.new.sink)
          c.args.bytes.now c.loop-rest.rest.now c.in_ok-rest.rest.now c.loop-rest.invariant.appended c.in_ok-rest.ensures.ok;
      same = c.in_ok-rest.ensures.cause.exact ∙ c.loop-rest.invariant.same;
      nothing = λ none.
          absurd (appended-nothing (g.K.Sink.written c.args.sink.now) (g.K.Sink.written c.loop-rest.sink) c.args.bytes.now
          c.loop-rest.rest.now c.loop-rest.invariant.appended none some);
    }
