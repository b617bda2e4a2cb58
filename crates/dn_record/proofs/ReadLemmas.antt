-- What the header and the data of bytes say of the record that they are.
use Rattle.std.proofs.Common.{◌≡◌, ℕ, List, refl}
use Rattle.dn_rdata.specs.Stored.{IsStored}
use Rattle.dn_rdata.specs.declared.record.Record.{Record}
use Rattle.dn_record.specs.declared.view.RecordView.{RecordView}
use Rattle.dn_record.specs.Layout.{IsRecord}
use Rattle.dn_record.specs.Reads.{IsFramed, Lends}
use Rattle.dn_record.proofs.LayoutLemmas.{record_once}

-- the record with the view's fields and these data
abbrev pub item_of : RecordView → List ℕ → Record
item_of view rdata = record {
  rtype = view.rtype;
  rank = view.rank;
  flags = view.flags;
  serial = view.serial;
  ttl = view.ttl;
  reserved = view.reserved;
  hour = view.hour;
  rdata = rdata;
}

module _ (bytes : List ℕ) (view : RecordView) (framed : IsFramed bytes view) where
  abbrev pub item_is : (rdata : List ℕ) → IsStored view.rtype view.stored.now rdata → IsRecord bytes (item_of view rdata)
  item_is rdata is = record { stored = view.stored.now; bytes_are = framed; data_is = is }

  pub lent : (rdata : List ℕ) → IsStored view.rtype view.stored.now rdata → (item : Record) × Lends bytes view item
  lent rdata is = (
    item_of view rdata,
    record {
      is = item_is rdata is;
      rtype_is = refl;
      rank_is = refl;
      flags_is = refl;
      serial_is = refl;
      ttl_is = refl;
      reserved_is = refl;
      hour_is = refl;
      stored_is = refl;
    },
  )

  pub read_once : (rdata : List ℕ) → IsStored view.rtype view.stored.now rdata
      → IsRecord bytes (item_of view rdata) × ((other : Record) → IsRecord bytes other → other ≡ item_of view rdata)
  read_once rdata is = (item_is rdata is, λ other also. record_once bytes other (item_of view rdata) also (item_is rdata is))
