-- What was read of a source before a read failed.
use Rattle.std.proofs.Common.{◌≡◌, ◌⊎◌, inl, inr, ◌≤◌, ◌+◌, ◌++◌, ◌∷◌, ◌∙◌, ℕ, Bool, List, [], Option, None, Some, length, length-append, refl, ap, sym, subst, arith, append-nil, append_assoc}
use Rattle.std.proofs.KnownBytes.{Consumes-nil, Consumes-trans}
use Rattle.csv_rows.specs.Readings.{records_as}
use Rattle.csv_rows.specs.Records.{record_at}
use Rattle.csv_rows.specs.declared.cleaning.Reading.{Reading}
use Rattle.par_model.specs.Named.{bound_plan}
use Rattle.par_model.specs.Outcome.{Table as IsTable}
use Rattle.plan_spec.specs.Query.{Query}
use Rattle.row_blocks.specs.Blocks.{Table}
use Rattle.row_windows.specs.Stretch.{Fills, IsLostWindow, Stretch}
use Rattle.row_windows.specs.declared.window.TheConstants.{MOST_RECORD_BYTES}
use Rattle.row_windows.specs.declared.window.WindowAnswer.{WindowAnswer}
use Rattle.row_windows.specs.declared.window.WindowAnswer.TheVariants as answer
use Rattle.stream_groups.specs.Before.{IsLostBatch, ReadBefore, most_of_batch}
use Rattle.stream_groups.specs.Begins.{lines_of}
use Rattle.stream_groups.specs.Outcome.{outcome}
use Rattle.stream_groups.specs.Reading.{AddsPiece, HasRead}
use Rattle.stream_groups.specs.Stops.{IsStopOfWindow}
use Rattle.stream_groups.specs.Twice.{twice_of}
use Rattle.stream_groups.specs.Ways.{Way, of_text}
use Rattle.stream_groups.specs.declared.batch.Batch.{Batch}
use Rattle.stream_groups.specs.declared.stop.Stop.{Stop}
use Rattle.stream_groups.specs.declared.stop.Stop.TheVariants as stop
use Rattle.stream_groups.proofs.Feeds.{lines_next}

-- what was read on, behind lines
pub fills_behind : (a b c : Option (List ℕ)) (was lines rest text : List ℕ) → Fills a b was (lines ++ rest) → Fills b c rest text → Fills a c was (lines ++ text)
fills_behind a b c was lines rest text first next = (
  first.0 ++ next.0,
  Consumes-trans a b c first.0 next.0 first.1 next.1,
  ap (λ (l : List ℕ). lines ++ l) next.2 ∙ (sym (append_assoc lines rest next.0) ∙ (ap (λ (l : List ℕ). l ++ next.0) first.2 ∙ append_assoc was first.0 next.0)),
)

-- no windows so far
pub fills_none : (s : Option (List ℕ)) (was : List ℕ) (pieces : List Stretch) → pieces ≡ [] → Fills s s was (lines_of pieces ++ was)
fills_none s was pieces none = ([], Consumes-nil s, ap (λ (ps : List Stretch). lines_of ps ++ was) none ∙ sym (append-nil was))

-- one window more of a batch
pub fills_piece : (a b c : Option (List ℕ)) (was rest : List ℕ) (pieces : List Stretch) (piece : Stretch) → Fills a b was (lines_of pieces ++ rest) → Fills b c rest (piece.lines ++ piece.rest)
    → Fills a c was (lines_of (pieces ++ piece ∷ []) ++ piece.rest)
fills_piece a b c was rest pieces piece first next =
    let all = fills_behind a b c was (lines_of pieces) rest (piece.lines ++ piece.rest) first next in
    let same : lines_of pieces ++ (piece.lines ++ piece.rest) ≡ lines_of (pieces ++ piece ∷ []) ++ piece.rest =
    sym (append_assoc (lines_of pieces) piece.lines piece.rest) ∙ ap (λ (l : List ℕ). l ++ piece.rest) (sym (lines_next pieces piece)) in
    subst (Fills a c was) same all

pub fills_more : (old mid new : Option (List ℕ)) (was : List ℕ) (b now : Batch) (is_last : Bool) → Fills old mid was (lines_of b.pieces.items ++ b.next.rest) → AddsPiece mid new b now is_last
    → Fills old new was (lines_of now.pieces.items ++ now.next.rest)
fills_more old mid new was b now is_last first a =
    subst (λ (r : List ℕ). Fills old new was (lines_of now.pieces.items ++ r)) (sym a.rest)
    (subst (λ (ps : List Stretch). Fills old new was (lines_of ps ++ a.piece.rest)) (sym a.pieces) (fills_piece old mid new was b.next.rest b.pieces.items a.piece first a.filled.reads))

-- a batch is lost if a window of it is: the lines of those before it are not more than the batch is to have
pub lost_batch : (a b c : Option (List ℕ)) (was lines : List ℕ) (next : Stretch) (size : ℕ) → Fills a b was (lines ++ next.rest) → IsLostWindow b c next → length lines ≤ size → IsLostBatch a c was (most_of_batch size)
lost_batch a b c was lines next size first lost low = record {
  text = lines ++ lost.text;
  reads = fills_behind a b c was lines next.rest lost.text first lost.reads;
  few = omega (arith, length-append lines lost.text, low, lost.few);
}

pub lost_window : (old new : Option (List ℕ)) (was : Stretch) → IsLostWindow old new was → IsLostBatch old new was.rest (MOST_RECORD_BYTES + 1)
lost_window old new was lost = record { text = lost.text; reads = lost.reads; few = lost.few }

-- what was read before it has some records, which have no fault
pub read_before : (reading : Reading) (query : Query) (from old new : Option (List ℕ)) (records : Table) (feeds : ℕ) (rest : List ℕ) (most : ℕ) → HasRead reading from old records feeds rest → IsLostBatch old new rest most
    → (records ≡ []) ⊎ ((outcome query.plan records ≡ IsTable) × (twice_of (bound_plan (record_at records 0) query.plan) (record_at records 0) ≡ None)) → ReadBefore (of_text reading) query from new most
read_before reading query None old new records feeds rest most read lost whole = tt
read_before reading query (Some bytes) None new records feeds rest most read lost whole = absurd read
read_before reading query (Some bytes) (Some old) None records feeds rest most read lost whole = absurd lost.reads.1
read_before reading query (Some bytes) (Some old) (Some new) records feeds rest most read lost whole =
    let more = lost.reads.0 in
    let took : length old ≡ length more + length new = ap length lost.reads.1 ∙ length-append more new in
    let text : length lost.text ≡ length rest + length more = ap length lost.reads.2 ∙ length-append rest more in
    record {
      front = read.front;
      back = rest ++ old;
      are = read.are;
      few = omega (arith, length-append rest old, took, text, lost.few);
      parts = read.parts ∙ ap (λ (l : Table). l ++ records_as reading (rest ++ old)) (sym read.is);
      whole = elim whole [
        | inl none ↦ inl (read.is ∙ none)
        | inr table ↦ inr (record {
          has_table = ap (outcome query.plan) read.is ∙ table.0;
          once = subst (λ (l : Table). twice_of (bound_plan (record_at l 0) query.plan) (record_at l 0) ≡ None) (sym read.is) table.1;
        })
      ];
    }

-- also but for more bytes
pub before_more : (way : Way) (query : Query) (old new : Option (List ℕ)) (few many : ℕ) → few ≤ many → ReadBefore way query old new few → ReadBefore way query old new many
before_more way query None new few many low before = tt
before_more way query (Some bytes) None few many low before = absurd before
before_more way query (Some bytes) (Some left) few many low before =
    record { front = before.front; back = before.back; are = before.are; few = omega (arith, before.few, low); parts = before.parts; whole = before.whole }

-- the reason for a window that was not filled is a read that failed only if one did
pub window_fault_is : (row feeds : ℕ) (text : List ℕ) (why : WindowAnswer) (said : Stop) → IsStopOfWindow why row feeds text said → said ≡ stop.ReadFault → why ≡ answer.ReadFault
window_fault_is row feeds text answer.ReadFault said stop_is e = refl
window_fault_is row feeds text answer.Memory said stop_is e = let bad : stop.Memory ≡ stop.ReadFault = sym stop_is ∙ e in cc bad
window_fault_is row feeds text answer.LongRecord said stop_is e = elim stop_is [
  | inl long ↦ let bad : stop.LongRecord row long.0 long.1 ≡ stop.ReadFault = sym long.2 ∙ e in cc bad
  | inr memory ↦ let bad : stop.Memory ≡ stop.ReadFault = sym memory ∙ e in cc bad
]
