-- Windows as a part of the bytes of a source.
use Rattle.std.proofs.Common.{◌≡◌, ◌<◌, ◌+◌, ◌++◌, ◌∙◌, inl, inr, ℕ, Bool, true, false, List, [], ◌∷◌, Option, None, Some, length, length-append, refl, ap, sym, subst, arith, append_assoc}
use Rattle.std.specs.Io.KnownBytes.{IsAtEnd}
use Rattle.std.proofs.lemmas.List.{get_or_append_left}
use Rattle.std.proofs.lemmas.List.Elements.{All-nil, All-push}
use Rattle.csv_rows.specs.Cuts.{IsCut}
use Rattle.csv_rows.specs.declared.cleaning.Reading.{Reading}
use Rattle.row_blocks.specs.Blocks.{Table}
use Rattle.row_windows.specs.Seams.{BeginsLine, IsSeam}
use Rattle.row_windows.specs.Stretch.{Fills, Stretch}
use Rattle.stream_groups.specs.Begins.{AllCut, lines_of, no_stretch, piece_at}
use Rattle.stream_groups.specs.Reading.{ArePart, HasPart, HasRead}
use Rattle.stream_groups.proofs.Feeds.{lines_next}
use Rattle.stream_groups.proofs.Windows.{begins_longer}

-- no windows so far
pub part_none : (reading : Reading) (from old : Option (List ℕ)) (records : Table) (feeds : ℕ) (rest : List ℕ) → BeginsLine rest → HasRead reading from old records feeds rest → HasPart reading from old records feeds [] rest
part_none reading None old records feeds rest line read = tt
part_none reading (Some bytes) None records feeds rest line read = absurd read
part_none reading (Some bytes) (Some left) records feeds rest line read = record {
  front = read.front;
  are = read.are;
  is = read.is;
  feeds = read.feeds;
  whole = read.whole;
  cuts = λ k low. absurd (omega (arith, low));
  next = inr (begins_longer rest left line, All-nil (λ (w : Stretch). IsCut w.lines));
}

-- what was read on, after what there was
go_on : (was mid text new more : List ℕ) → mid ≡ more ++ new → text ≡ was ++ more → was ++ mid ≡ text ++ new
go_on was mid text new more took is = ap (λ (l : List ℕ). was ++ l) took ∙ (sym (append_assoc was more new) ∙ ap (λ (l : List ℕ). l ++ new) (sym is))

-- the windows before the last one end outside quotes
cuts_next : (pieces : List Stretch) (piece : Stretch) → AllCut pieces → (k : ℕ) → k + 1 < length (pieces ++ piece ∷ []) → IsCut (piece_at (pieces ++ piece ∷ []) k).lines
cuts_next pieces piece cut k low =
    let short : k < length pieces = omega (arith, low, length-append pieces (piece ∷ [])) in
    subst (λ (w : Stretch). IsCut w.lines) (sym (get_or_append_left pieces (piece ∷ []) no_stretch k short)) (cut k no_stretch short)

-- one window more
pub part_more : (reading : Reading) (from mid new : Option (List ℕ)) (records : Table) (feeds : ℕ) (pieces : List Stretch) (piece : Stretch) (rest : List ℕ) (is_last : Bool) → HasPart reading from mid records feeds pieces rest → AllCut pieces
    → Fills mid new rest (piece.lines ++ piece.rest) → (is_last ≡ true → (piece.rest ≡ []) × IsAtEnd new) → (is_last ≡ false → IsSeam piece.lines piece.rest) → HasPart reading from new records feeds (pieces ++ piece ∷ []) piece.rest
part_more reading None mid new records feeds pieces piece rest is_last part cut f last seam = tt
part_more reading (Some bytes) None new records feeds pieces piece rest is_last part cut f last seam = absurd part
part_more reading (Some bytes) (Some mid) None records feeds pieces piece rest is_last part cut f last seam = absurd f.1
part_more reading (Some bytes) (Some mid) (Some new) records feeds pieces piece rest true part cut f last seam =
    let left = go_on rest mid (piece.lines ++ piece.rest) new f.0 f.1 f.2 in
    let all : lines_of pieces ++ (rest ++ mid) ≡ lines_of (pieces ++ piece ∷ []) ++ (piece.rest ++ new) =
    ap (λ (l : List ℕ). lines_of pieces ++ l) (left ∙ append_assoc piece.lines piece.rest new)
    ∙ (sym (append_assoc (lines_of pieces) piece.lines (piece.rest ++ new)) ∙ ap (λ (l : List ℕ). l ++ (piece.rest ++ new)) (sym (lines_next pieces piece))) in
    let none : piece.rest ≡ [] = (last refl).0 in
    let end : new ≡ [] = (last refl).1 in
    let back : piece.rest ++ new ≡ [] = cc (none, end) in
    record { front = part.front; are = part.are ∙ ap (λ (l : List ℕ). part.front ++ l) all; is = part.is; feeds = part.feeds; whole = part.whole; cuts = cuts_next pieces piece cut; next = inl back }
part_more reading (Some bytes) (Some mid) (Some new) records feeds pieces piece rest false part cut f last seam =
    let left = go_on rest mid (piece.lines ++ piece.rest) new f.0 f.1 f.2 in
    let all : lines_of pieces ++ (rest ++ mid) ≡ lines_of (pieces ++ piece ∷ []) ++ (piece.rest ++ new) =
    ap (λ (l : List ℕ). lines_of pieces ++ l) (left ∙ append_assoc piece.lines piece.rest new)
    ∙ (sym (append_assoc (lines_of pieces) piece.lines (piece.rest ++ new)) ∙ ap (λ (l : List ℕ). l ++ (piece.rest ++ new)) (sym (lines_next pieces piece))) in
    let s = seam refl in
    record {
      front = part.front;
      are = part.are ∙ ap (λ (l : List ℕ). part.front ++ l) all;
      is = part.is;
      feeds = part.feeds;
      whole = part.whole;
      cuts = cuts_next pieces piece cut;
      next = inr (begins_longer piece.rest new s.line, All-push (λ (w : Stretch). IsCut w.lines) pieces piece cut s.whole);
    }

-- no window more, but more was read into the rest
pub part_longer : (reading : Reading) (from mid new : Option (List ℕ)) (records : Table) (feeds : ℕ) (pieces : List Stretch) (was rest : List ℕ) → HasPart reading from mid records feeds pieces was → Fills mid new was rest → HasPart reading from new records feeds pieces rest
part_longer reading None mid new records feeds pieces was rest part f = tt
part_longer reading (Some bytes) None new records feeds pieces was rest part f = absurd part
part_longer reading (Some bytes) (Some mid) None records feeds pieces was rest part f = absurd f.1
part_longer reading (Some bytes) (Some mid) (Some new) records feeds pieces was rest part f = subst (ArePart reading bytes records feeds pieces) (go_on was mid rest new f.0 f.1 f.2) part
