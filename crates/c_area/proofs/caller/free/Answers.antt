use Rattle.std.proofs.Common.{◌≡◌, ℕ, ◌*◌, Some, is_some, inl, inr, refl, sym, ap, subst, ◌∙◌, arith}
use Rattle.std_alloc.specs.Arc.{arc_value}
use Rattle.word_map.specs.WordMap.{range_of}
use Rattle.region_words.specs.Parts.{Owned}
use Rattle.region_words.specs.declared.chunk.Chunk.{Chunk}
use Rattle.lock_book.specs.Shown.{Missed}
use Rattle.c_area.specs.Arenas.{name_in}
use Rattle.c_area.specs.States.{HandedBack, Return, TakenBack}
use Rattle.c_area.specs.Tries.{Makes}
use Rattle.c_area.specs.declared.locked.AreaAnswer.TheVariants.{Back, Taken}
use Rattle.c_area.specs.declared.locked.AreaAsk.{AreaAsk}
use Rattle.c_area.specs.declared.shared.Share.{Share}
use Rattle.c_area.specs.declared.shared.Shared.{Shared}
use Rattle.c_area.proofs.Turns.{back_chunks, back_share, back_stays, gone_gains, gone_share, handed_back, out_stays, same_brought, still_there, told}
use Rattle.c_area.proofs.caller.free.Goals as goal

pub split_chunk-chunk-requires-clause-here : goal.split_chunk-chunk-requires-clause-here
split_chunk-chunk-requires-clause-here c = c.requires.share.here ∙ sym (ap (λ (x : Shared). x.region) c.deref.ensures)

pub split_chunk-chunk-requires-clause-valid : goal.split_chunk-chunk-requires-clause-valid
split_chunk-chunk-requires-clause-valid c = (c.requires.share.held c.args.number c.in-Some.e (sym c.in-Some.ensures)).valid

pub split_chunk-chunk-requires-clause-owns : goal.split_chunk-chunk-requires-clause-owns
split_chunk-chunk-requires-clause-owns c = λ k low high. (c.requires.share.held c.args.number c.in-Some.e (sym c.in-Some.ensures)).has k (low, high)

pub ask_area-requires-clause-ask : goal.ask_area-requires-clause-ask
ask_area-requires-clause-ask c = ap (λ (o : Owned). o.region) c.split_chunk-chunk.ensures.words ∙ c.requires.share.here

pub remove-requires : goal.remove-requires
remove-requires c =
    ap is_some (still_there c.args.share.now c.requires.share c.split_chunk-chunk.new.self c.ask_area.new.share c.args.number c.in-Some.e (sym c.in-Some.ensures) c.split_chunk-chunk.ensures.rest c.ask_area.ensures.rest c.ask_area.ensures.own.0)

pub returns-in-Ok-Taken-clause-share : goal.returns-in-Ok-Taken-clause-share
returns-in-Ok-Taken-clause-share c =
    gone_share c.args.share.now c.requires.share c.split_chunk-chunk.new.self c.ask_area.new.share c.args.number c.in-Some.e (sym c.in-Some.ensures) c.split_chunk-chunk.ensures.rest c.ask_area.ensures.rest c.ask_area.ensures.own.0 c.remove.new.self c.remove.ensures.updates

pub returns-in-Ok-Taken-clause-frees : goal.returns-in-Ok-Taken-clause-frees
returns-in-Ok-Taken-clause-frees c =
    let s = c.args.share.now in
    let u = c.ask_area.new.share in
    let e = c.in-Some.e in
    let place = c.split_chunk-chunk.ensures.place in
    let made = told s u (Return c.split_chunk-chunk.result.at c.split_chunk-chunk.result.bytes) c.in-Ok-Taken.field-0 Taken c.in-Ok-Taken.field-0-is c.in-Ok-Taken.ensures.made in (
      out_stays s c.requires.share c.split_chunk-chunk.new.self u c.args.number e (sym c.in-Some.ensures) c.split_chunk-chunk.ensures.rest c.ask_area.ensures.rest c.ask_area.ensures.own.0 c.remove.new.self c.ask_area.ensures.own.1,
      (
        e,
        subst (λ (z : ℕ × ℕ). Makes s u (Return z.0 z.1) TakenBack) (λ i. (place.0 i, place.1 i)) made,
        gone_gains s c.requires.share c.split_chunk-chunk.new.self u c.args.number e (sym c.in-Some.ensures) c.split_chunk-chunk.ensures.rest c.ask_area.ensures.rest c.ask_area.ensures.own.0 c.remove.new.self c.remove.ensures.updates,
      ),
    )

pub put_back-requires : goal.put_back-requires
put_back-requires c =
    let chunk = handed_back (name_in (arc_value c.args.share.now.shared).region (arc_value c.args.share.now.shared).pages) c.split_chunk-chunk.result c.in-Ok-Back.field-0 c.in-Ok-Back.chunk c.in-Ok-Back.field-0-is c.in-Ok-Back.ensures.fits in
    let rest = c.ask_area.ensures.rest in
    let out = ap (λ (x : Share). x.words.region) rest ∙ ap (λ (o : Owned). o.region) c.split_chunk-chunk.ensures.rest in
    record { here = (out ∙ (c.requires.share.here ∙ sym (ap (λ (x : Share). (arc_value x.shared).region) rest)), ap (λ (x : Chunk). x.part.region) chunk ∙ (ap (λ (o : Owned). o.region) c.split_chunk-chunk.ensures.words ∙ sym out)) }

pub returns-in-Ok-Back-clause-share : goal.returns-in-Ok-Back-clause-share
returns-in-Ok-Back-clause-share c =
    let chunk = handed_back (name_in (arc_value c.args.share.now.shared).region (arc_value c.args.share.now.shared).pages) c.split_chunk-chunk.result c.in-Ok-Back.field-0 c.in-Ok-Back.chunk c.in-Ok-Back.field-0-is c.in-Ok-Back.ensures.fits in
    back_share c.args.share.now c.requires.share c.split_chunk-chunk.new.self c.ask_area.new.share c.args.number c.in-Some.e (sym c.in-Some.ensures) c.split_chunk-chunk.ensures.rest c.ask_area.ensures.rest c.ask_area.ensures.own.0
    c.in-Ok-Back.chunk.part (ap (λ (x : Chunk). x.part) chunk ∙ c.split_chunk-chunk.ensures.words) c.put_back.new.share c.put_back.ensures

pub returns-in-Ok-Back-clause-frees : goal.returns-in-Ok-Back-clause-frees
returns-in-Ok-Back-clause-frees c =
    let s = c.args.share.now in
    let u = c.ask_area.new.share in
    let e = c.in-Some.e in
    let place = c.split_chunk-chunk.ensures.place in
    let chunk = handed_back (name_in (arc_value c.args.share.now.shared).region (arc_value c.args.share.now.shared).pages) c.split_chunk-chunk.result c.in-Ok-Back.field-0 c.in-Ok-Back.chunk c.in-Ok-Back.field-0-is c.in-Ok-Back.ensures.fits in
    let part = ap (λ (x : Chunk). x.part) chunk ∙ c.split_chunk-chunk.ensures.words in
    let made = told s u (Return c.split_chunk-chunk.result.at c.split_chunk-chunk.result.bytes) c.in-Ok-Back.field-0 (Back c.in-Ok-Back.chunk) c.in-Ok-Back.field-0-is c.in-Ok-Back.ensures.made in
    let pass = ap (λ (x : Share). x.pass) c.put_back.ensures in
    inr (
      back_stays s c.requires.share c.split_chunk-chunk.new.self u c.args.number e (sym c.in-Some.ensures) c.split_chunk-chunk.ensures.rest c.ask_area.ensures.rest c.ask_area.ensures.own.0 c.in-Ok-Back.chunk.part part c.put_back.new.share c.put_back.ensures c.ask_area.ensures.own.1,
      (e, sym c.in-Some.ensures, subst (λ (x : Share). Makes s x (Return e.at (8 * e.words)) HandedBack) (sym c.put_back.ensures) (subst (λ (z : ℕ × ℕ). Makes s u (Return z.0 z.1) HandedBack) (λ i. (place.0 i, place.1 i)) made)),
      back_chunks s c.requires.share c.split_chunk-chunk.new.self u c.args.number e (sym c.in-Some.ensures) c.split_chunk-chunk.ensures.rest c.ask_area.ensures.rest c.ask_area.ensures.own.0 c.in-Ok-Back.chunk.part part c.put_back.new.share c.put_back.ensures,
    )

pub returns-in-Err-Free-clause-share : goal.returns-in-Err-Free-clause-share
returns-in-Err-Free-clause-share c =
    let chunk = same_brought c.in-Err-Free.chunk c.split_chunk-chunk.result c.in-Err-Free.field-0 c.in-Err-Free.field-0-is c.in-Err-Free.ensures.busy.0 in
    back_share c.args.share.now c.requires.share c.split_chunk-chunk.new.self c.ask_area.new.share c.args.number c.in-Some.e (sym c.in-Some.ensures) c.split_chunk-chunk.ensures.rest c.ask_area.ensures.rest c.ask_area.ensures.own.0
    c.in-Err-Free.chunk.part (ap (λ (x : Chunk). x.part) chunk ∙ c.split_chunk-chunk.ensures.words) c.put_back-in-Err-Free.new.share c.put_back-in-Err-Free.ensures

pub returns-in-Err-Free-clause-frees : goal.returns-in-Err-Free-clause-frees
returns-in-Err-Free-clause-frees c =
    let s = c.args.share.now in
    let u = c.ask_area.new.share in
    let e = c.in-Some.e in
    let chunk = same_brought c.in-Err-Free.chunk c.split_chunk-chunk.result c.in-Err-Free.field-0 c.in-Err-Free.field-0-is c.in-Err-Free.ensures.busy.0 in
    let part = ap (λ (x : Chunk). x.part) chunk ∙ c.split_chunk-chunk.ensures.words in
    let there = sym c.in-Some.ensures in (
      back_stays s c.requires.share c.split_chunk-chunk.new.self u c.args.number e there c.split_chunk-chunk.ensures.rest c.ask_area.ensures.rest c.ask_area.ensures.own.0 c.in-Err-Free.chunk.part part c.put_back-in-Err-Free.new.share c.put_back-in-Err-Free.ensures c.ask_area.ensures.own.1,
      ap is_some there,
      record {
        missed = subst (λ (x : Share). Missed s.pass x.pass) (sym c.put_back-in-Err-Free.ensures) c.in-Err-Free.ensures.busy.1;
        same = back_chunks s c.requires.share c.split_chunk-chunk.new.self u c.args.number e there c.split_chunk-chunk.ensures.rest c.ask_area.ensures.rest c.ask_area.ensures.own.0 c.in-Err-Free.chunk.part part c.put_back-in-Err-Free.new.share c.put_back-in-Err-Free.ensures;
      },
    )
