-- The additional rows turn by turn.
use Rattle.std.proofs.Common.{◌≡◌, ℕ, suc, ◌+◌, ◌<◌, List, [], ◌∷◌, ◌++◌, length, drop, get_or, drop-cons, arith, sym, ap, ◌∙◌}
use Rattle.std.proofs.lemmas.List.{append-nil}
use Rattle.dn_name.specs.Name.{Labels}
use Rattle.dn_message.specs.declared.rr.Rr.{Rr}
use Rattle.dn_store.specs.declared.owned.Owned.{Owned}
use Rattle.dn_answer.specs.Glue.{glue, server_of}
use Rattle.dn_answer.specs.Glue.Turn.{PutsGlue}

-- what the rest gives completes the whole
pub glue_on : (spelled : List Labels) (rows : List Owned) (apex : Labels) (whole list more : List Rr) (put then_put : List Owned) (one : Owned) (ahead rest : List Owned)
    → ahead ≡ one ∷ rest
    → PutsGlue spelled rows (server_of apex one) list put more then_put
    → list ++ glue spelled rows apex put ahead ≡ whole
    → more ++ glue spelled rows apex then_put rest ≡ whole
unfolding glue
glue_on spelled rows apex whole list more put then_put one ahead rest at puts so_far =
    sym (puts (λ further. glue spelled rows apex further rest))
    ∙ sym (ap (λ (behind : List Owned). list ++ glue spelled rows apex put behind) at) ∙ so_far

pub glue_ends : (spelled : List Labels) (rows : List Owned) (apex : Labels) (whole list : List Rr) (put ahead : List Owned) → ahead ≡ []
    → list ++ glue spelled rows apex put ahead ≡ whole → list ≡ whole
unfolding glue
glue_ends spelled rows apex whole list put ahead at so_far =
    sym (append-nil list) ∙ sym (ap (λ (behind : List Owned). list ++ glue spelled rows apex put behind) at) ∙ so_far

-- the row at a place, and those behind it
pub at_row : (rows : List Owned) (at : ℕ) (one : Owned) → one ≡ get_or rows at one → at < length rows → drop at rows ≡ one ∷ drop (at + 1) rows
at_row rows at one is within =
    let next : suc at ≡ at + 1 = omega arith in
    drop-cons rows at one within
    ∙ ap (λ (here : Owned). here ∷ drop (suc at) rows) (sym is)
    ∙ ap (λ (from : ℕ). one ∷ drop from rows) next
