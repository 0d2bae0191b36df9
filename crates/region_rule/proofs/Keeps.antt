-- Each kind of step keeps a sound world sound.
use Rattle.std.proofs.Common.{sym, subst}
use Rattle.region_rule.specs.Sound.{World, Sound}
use Rattle.region_rule.specs.Steps.{Event, Load, Store, Split, Join, Freeze, Share, LoadFrozen, EndShare, Gather, MakeRing, LoadRead, StoreData, StoreWritten, LoadWritten, LoadData, StoreRead, StoreSenderFlag, StoreReceiverFlag, LoadSenderFlag, LoadReceiverFlag, LoadWrittenLast, JoinEnds, LoadDone, EndDone, PartAgain, Happens}
use Rattle.region_rule.proofs.Owners.{loads, stores, splits, joins, freezes, shares, loads_frozen, ends_share, gathers}
use Rattle.region_rule.proofs.Rings.{loads_read, stores_data, stores_written, loads_written, loads_data, stores_read, stores_sender_flag, stores_receiver_flag, loads_sender_flag, loads_receiver_flag, loads_last}
use Rattle.region_rule.proofs.Meets.{makes_ring, joins_ends, loads_done, ends_done, parts_again}

pub keeps : (e : Event) (before after : World) → Sound before → Happens e before after → Sound after
keeps (Load i k x) before after s h = subst Sound (sym h.4) (loads before i h.0 h.1 s h.2)
keeps (Store i k x) before after s h = subst Sound (sym h.5) (stores before i k x h.0 h.1 s h.2 h.3 h.4)
keeps (Split i from len) before after s h = subst Sound (sym h.3) (splits before i from len h.0 h.1 s h.2)
keeps (Join i j) before after s h = subst Sound (sym h.7) (joins before i j h.0 h.1 h.2 h.3 s h.4 h.5 h.6)
keeps (Freeze i k x) before after s h = subst Sound (sym h.4) (freezes before i h.0 h.1 s h.2)
keeps (Share i) before after s h = subst Sound (sym h.2) (shares before i h.0 s h.1)
keeps (LoadFrozen i k x) before after s h = subst Sound (sym h.3) (loads_frozen before i h.0 s h.1)
keeps (EndShare i j) before after s h = subst Sound (sym h.4) (ends_share before i j h.0 s h.1 h.2 h.3)
keeps (Gather i j) before after s h = subst Sound (sym h.5) (gathers before i j h.0 h.1 s h.2 h.3 h.4)
keeps (MakeRing i r) before after s h = subst Sound (sym h.4) (makes_ring before i r h.0 h.1 s h.2 h.3)
keeps (LoadRead i x) before after s h = subst Sound (sym h.7) (loads_read before i x h.2 h.0 h.1 s h.3 h.5 h.6)
keeps (StoreData i x) before after s h = subst Sound (sym h.7) (stores_data before i x h.0 h.1 s h.2 h.4 h.5 h.6)
keeps (StoreWritten i) before after s h = subst Sound (sym h.4) (stores_written before i h.0 h.1 s h.2 h.3)
keeps (LoadWritten i x) before after s h = subst Sound (sym h.8) (loads_written before i x h.2 h.0 h.1 s h.3 h.6 h.7)
keeps (LoadData i x) before after s h = subst Sound (sym h.6) (loads_data before i x h.0 h.1 s h.2 h.4 h.5)
keeps (StoreRead i) before after s h = subst Sound (sym h.4) (stores_read before i h.0 h.1 s h.2)
keeps (StoreSenderFlag i) before after s h = subst Sound (sym h.4) (stores_sender_flag before i h.0 h.1 s h.2)
keeps (StoreReceiverFlag i) before after s h = subst Sound (sym h.4) (stores_receiver_flag before i h.0 h.1 s h.2)
keeps (LoadSenderFlag i x) before after s h = subst Sound (sym h.5) (loads_sender_flag before i x h.0 h.1 s h.2 h.3 h.4)
keeps (LoadReceiverFlag i x) before after s h = subst Sound (sym h.5) (loads_receiver_flag before i x h.0 h.1 s h.2 h.3 h.4)
keeps (LoadWrittenLast i x) before after s h = subst Sound (sym h.8) (loads_last before i x h.2 h.0 h.1 s h.3 h.5 h.6 h.7)
keeps (JoinEnds i j) before after s h = subst Sound (sym h.8) (joins_ends before i j h.0 h.1 h.2 h.3 s h.4 h.5 h.6 h.7)
keeps (LoadDone i k x) before after s h = subst Sound (sym h.5) (loads_done before i h.0 h.1 h.2 s h.3)
keeps (EndDone i k x) before after s h = subst Sound (sym h.5) (ends_done before i h.0 h.1 h.2 s h.3)
keeps (PartAgain i) before after s h = subst Sound (sym h.4) (parts_again before i h.0 h.1 h.2 s h.3)
