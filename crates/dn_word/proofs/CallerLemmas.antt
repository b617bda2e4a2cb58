-- What crates above may cite of these proofs.
pub use Rattle.dn_word.proofs.AddressLemmas.{has_parts}
pub use Rattle.dn_word.proofs.AddressesBack.{address_lacks_space, address_read_back, decimal_lacks}
pub use Rattle.dn_word.proofs.JoinedLemmas.{Lacks, digits_lack, lacks_both, lacks_words, split_joined, words_behind}
pub use Rattle.dn_word.proofs.NamesBack.{name_lacks_space, name_read_back}
pub use Rattle.dn_word.proofs.NumbersBack.{decimal_digits, decimal_some, number_read_back}
pub use Rattle.dn_word.proofs.ReadValues.{address_is_four, bound, chosen, given_is, name_is_name, number_is_within}
