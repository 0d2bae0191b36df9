use Rattle.std.proofs.Common.{◌≡◌, ℕ, take, ap, sym, subst, ◌∙◌, arith}
use Rattle.dshash_core.specs.Key.{packed_key}
use Rattle.dshash_core.proofs.Keys.{packed_long, packed_head, reads_bytes}
use Rattle.dshash_core.proofs.key.unpack_key.Goals as goal

pub bounds-key-i : goal.bounds-key-i
bounds-key-i c = omega (arith, packed_long _ _ c.requires.packs)

pub bounds-key-0 : goal.bounds-key-0
bounds-key-0 c = omega (arith, packed_long _ _ c.requires.packs)

pub returns-clause-reads : goal.returns-clause-reads
returns-clause-reads c = λ bytes all short packs. record {
  0 = packed_head _ bytes packs;
  1 = subst (λ (n : ℕ). take n c.loop-i.out ≡ bytes) (sym (packed_head _ bytes packs))
      (reads_bytes c.args.key.now bytes c.loop-i.out all short packs c.loop-i.invariant.long (λ k h. c.loop-i.invariant.bytes k (omega arith) h));
}

pub returns-clause-encodes : goal.returns-clause-encodes
returns-clause-encodes c =
    let read = returns-clause-reads c c.requires.bytes c.requires.are_bytes c.requires.short c.requires.packs in
    c.requires.packs ∙ ap packed_key (sym read.1)
