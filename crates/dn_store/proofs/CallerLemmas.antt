-- What crates above may cite of these proofs.
pub use Rattle.dn_store.proofs.AboveLemmas.{AllAbove, above_at, above_behind, above_first, above_next, above_none, above_own, behind, looked_more, not_above}
pub use Rattle.dn_store.proofs.AheadLemmas.{AreThere, Here, ahead, ahead_taken, all_here}
pub use Rattle.dn_store.proofs.CountLemmas.{count_cons, count_mono, count_none, either, none_counted, ones, ones_mono, past}
pub use Rattle.dn_store.proofs.DataLemmas.{HasOwnData, node_has, rows_at_have, rows_have, units_have}
pub use Rattle.dn_store.proofs.FoundLemmas.{IsFoundBy, found_all, key_at}
pub use Rattle.dn_store.proofs.ListLemmas.{all_at, all_both, all_filter, all_found, all_join, all_map, all_of, all_passes, all_take, all_then, filter_all, filter_within, sorted_take, take_next, take_over}
pub use Rattle.dn_store.proofs.LoweredLemmas.{lower_lowered, same_lower}
pub use Rattle.dn_store.proofs.NodeLemmas.{IsNode, node_ok, node_parts}
pub use Rattle.dn_store.proofs.OrderLemmas.{IsAfter, apart_first, differ_map, key_total, less_from, unit_order}
pub use Rattle.dn_store.proofs.RowLemmas.{AreRows, RowAfter, RowsGrow, grow_sorted, one_soa, row_total, rows_kept, soas_more, sorted_grow}
pub use Rattle.dn_store.proofs.RunLemmas.{run_differ, run_order, run_room, run_short}
pub use Rattle.dn_store.proofs.TableLemmas.{table_taken}
pub use Rattle.dn_store.proofs.TakenCounts.{all_taken_old, count_taken_old, is_written, props_taken}
pub use Rattle.dn_store.proofs.TakenLemmas.{IsSoundList, all_placed, all_taken, length_bound, sound_taken}
pub use Rattle.dn_store.proofs.TakenLemmas.{by_order}
pub use Rattle.dn_store.proofs.TakenRows.{Brings, rows_taken}
pub use Rattle.dn_store.proofs.ValidLemmas.{run_valid, units_named, valid_at, valid_taken}
-- dn_name's on names in lower case
pub use Rattle.dn_name.proofs.CallerLemmas.{name_lowered}
-- std's lemmas on tests
pub use Rattle.std.proofs.lemmas.Bool.{and_from as and_both, and_left as first_no, and_right as and_no, not-true as not_true, not_from_false as not_false}
pub use Rattle.std.specs.Cmp.{first_so as and_first, second_so as and_second}
