use Rattle.std.proofs.Common.{◌≡◌, ℕ, ◌/◌, sym, ap, subst, ◌∙◌, arith}
use Rattle.std_alloc.specs.Arc.{arc_value}
use Rattle.word_map.specs.WordMap.{HasJust}
use Rattle.region_words.specs.Parts.{Owned}
use Rattle.c_area.specs.Shares.{IsShare, extent}
use Rattle.c_area.specs.Tries.{Gains}
use Rattle.c_area.specs.declared.shared.Share.{Share}
use Rattle.c_area.specs.declared.shared.Shared.{Shared}
use Rattle.c_area.proofs.Chunks.{words_some}
use Rattle.c_area.proofs.Keeping.{gains_with, share_with}
use Rattle.c_area.proofs.caller.keep.Goals as goal

pub join-requires-clause-here : goal.join-requires-clause-here
join-requires-clause-here c = c.requires.share.here ∙ sym (ap (λ (x : Shared). x.region) c.deref.ensures)

pub join-requires-clause-other_here : goal.join-requires-clause-other_here
join-requires-clause-other_here c = c.requires.here ∙ sym (ap (λ (x : Shared). x.region) c.deref.ensures)

pub returns-clause-share : goal.returns-clause-share
returns-clause-share c =
    let s = c.args.share.now in
    let bytes = c.args.chunk.bytes in
    let just : HasJust c.args.chunk.part.words c.word.result (bytes / 8) = subst (λ (z : ℕ). HasJust c.args.chunk.part.words z (bytes / 8)) (sym c.word.ensures) c.args.chunk.just in
    subst (λ (o : Owned). IsShare (record s { words = o; chunks = c.insert_reserved.new.self })) (sym c.join.ensures.both)
    (share_with s c.requires.share c.insert_reserved.new.self c.insert_reserved.result (extent c.word.result (bytes / 8)) c.args.chunk.part.words (omega (arith, c.word.ensures, c.args.chunk.valid)) (words_some bytes c.requires.some) just
    c.join.ensures.apart c.insert_reserved.ensures.was_vacant c.insert_reserved.ensures.updates)

pub returns-clause-gains : goal.returns-clause-gains
returns-clause-gains c =
    let s = c.args.share.now in
    let bytes = c.args.chunk.bytes in
    let just : HasJust c.args.chunk.part.words c.word.result (bytes / 8) = subst (λ (z : ℕ). HasJust c.args.chunk.part.words z (bytes / 8)) (sym c.word.ensures) c.args.chunk.just in
    subst (λ (z : ℕ). Gains s (record s { words = c.join.new.self; chunks = c.insert_reserved.new.self }) c.insert_reserved.result (extent z (bytes / 8))) c.word.ensures
    (subst (λ (o : Owned). Gains s (record s { words = o; chunks = c.insert_reserved.new.self }) c.insert_reserved.result (extent c.word.result (bytes / 8))) (sym c.join.ensures.both)
    (gains_with s c.requires.share c.insert_reserved.new.self c.insert_reserved.result (extent c.word.result (bytes / 8)) c.args.chunk.part.words just c.join.ensures.apart c.insert_reserved.ensures.was_vacant c.insert_reserved.ensures.updates))
