use Rattle.std.proofs.Common.{◌≡◌, ◌+◌, ◌/◌, ◌≤◌, length, subst}
use Rattle.std.specs.List.{All}
use Rattle.dshash_core.specs.Hung.{Hung}
use Rattle.dshash_core.specs.Cells.{all_items}
use Rattle.dshash_core.proofs.Views.{are_few, buckets_room, keys_long}
use Rattle.dshash_core.proofs.buckets.Buckets.is_sound.Goals as goal

pub returns : goal.returns
returns c = record {
  room = subst (λ (h : Hung). length h.chains ≤ h.words) c.self.view_is (buckets_room c.self.inside c.self.invariant);
  fits = subst (λ (h : Hung). 2 + h.layout.key_words + h.layout.value_words ≤ h.layout.item_bytes / 8) c.self.view_is c.self.invariant.fits;
  few = subst (λ (h : Hung). length (all_items h.chains) ≤ 67108864) c.self.view_is (are_few c.self.inside c.self.invariant);
  keys = subst (λ (h : Hung). All (λ it. length it.key ≡ h.layout.key_words) (all_items h.chains)) c.self.view_is (keys_long c.self.inside c.self.invariant);
}
