use Rattle.std.proofs.Common.{◌≡◌, ◌++◌, ◌∷◌, [], ◌∙◌, ap, map, false, nat_eq}
use Rattle.std.specs.List.{list_any}
use lib.Pointwise.{pointwise}
use Rattle.dn_script.specs.Play.{is_named}
use Rattle.dn_script.proofs.NameLemmas.{any_seen, put_behind}
use Rattle.dn_script.proofs.names.Names.push.Goals as goal

pub returns : goal.returns
returns c =
    let value = c.into_vec.result in
    let keys = c.self.inside.set.keys in
    let absent : list_any (λ key. pointwise nat_eq value.items key.items) keys ≡ false =
    any_seen (λ key. key.items) (is_named value.items) keys ∙ (λ i. list_any (is_named (c.into_vec.ensures i)) (c.self.view_is i)) ∙ c.requires in
    record {
      ok =
          ap (map (λ key. key.items)) c.in_ok-insert.ensures.keys
          ∙ put_behind (λ key. key.items) (list_any (λ key. pointwise nat_eq value.items key.items) keys) keys value absent
          ∙ (λ i. c.self.view_is i ++ c.into_vec.ensures i ∷ []);
    }
