use Rattle.std.proofs.Common.{◌≡◌, ◌++◌, sym, subst}
use Rattle.dn_world.specs.Laws.{AnswersAlike}
use Rattle.dn_world.specs.Runs.{AreProper, IsValidWorld, wrun}
use Rattle.dn_script.specs.Play.{play}
use Rattle.dn_script.proofs.PlayRuns.{play_proper, play_runs}
use Rattle.dn_script.proofs.laws.a_play_is_one_run.Goals as goal

pub returns : goal.returns
returns c script =
    let proper : AreProper (play script).events = play_proper script in
    let world : (play script).world ≡ wrun (play script).events = play_runs script in
    let valid : IsValidWorld (play script).world = subst IsValidWorld (sym world) (c.worlds_stay_valid.ensures (play script).events proper) in
    record {
      proper = proper;
      world = world;
      valid = valid;
      alike = subst AnswersAlike (sym world) (c.replicas_answer_alike.ensures (play script).events proper);
      aging = λ more. c.zones_age_rightly.ensures.runs ((play script).events ++ more);
      replies = c.replies_are_read_rightly.ensures (play script).world valid;
    }
