-- What is printed of the answers of a zone.
use Rattle.std.specs.Prelude.{ℕ, List, ◌++◌, codes}
use Rattle.dn_update.specs.declared.plan.Limit.{Limit}
use Rattle.dn_update.specs.declared.plan.Limit.TheVariants.{NodeSize, Version, Changes}
use Rattle.dn_zone.specs.declared.event.AdminDone.{AdminDone}
use Rattle.dn_zone.specs.declared.event.AdminDone.TheVariants.{Written, Unchanged, NotInZone}
use Rattle.dn_zone.specs.declared.event.Answer.{Answer}
use Rattle.dn_zone.specs.declared.event.Answer.TheVariants.{Admin, Begun, Busy, Finished, Gap, Idle, Merged, Moved, NotDue, Refused, Void}
use Rattle.dn_word.specs.Print.{count_text}

abbrev pub admin_text : AdminDone → List ℕ
admin_text (Written units) = count_text (codes "ok ") units
admin_text Unchanged = codes "ok 0"
admin_text NotInZone = codes "not in zone"

abbrev pub limit_text : Limit → List ℕ
limit_text NodeSize = codes "refused node-size"
limit_text Version = codes "refused version"
limit_text Changes = codes "refused changes"

-- a finished pass: between which change counts it ran, and what it did
unfoldable pub span_text : ℕ → ℕ → List ℕ
span_text start end = codes "finished" ++ count_text (codes " start ") start ++ count_text (codes " end ") end

unfoldable pub sweep_text : ℕ → ℕ → ℕ → ℕ → List ℕ
sweep_text removed entombed deleted skipped =
    count_text (codes " removed ") removed ++ count_text (codes " entombed ") entombed ++ count_text (codes " deleted ") deleted
    ++ count_text (codes " skipped ") skipped

unfoldable pub gap_text : ℕ → ℕ → List ℕ
gap_text cursor from = count_text (codes "gap ") cursor ++ count_text (codes " ") from

abbrev pub answer_text : Answer → List ℕ
answer_text (Admin done) = admin_text done
answer_text Begun = codes "begun"
answer_text NotDue = codes "not due"
answer_text (Busy hour) = count_text (codes "busy ") hour
answer_text Moved = codes "moved"
answer_text (Finished start end removed entombed deleted skipped) = span_text start end ++ sweep_text removed entombed deleted skipped
answer_text (Void props_usn) = count_text (codes "void ") props_usn
answer_text Idle = codes "idle"
answer_text (Merged won) = count_text (codes "merged ") won
answer_text (Gap cursor from) = gap_text cursor from
answer_text (Refused limit) = limit_text limit
