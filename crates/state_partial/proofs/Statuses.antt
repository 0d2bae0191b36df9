-- Which reason to have no file has which status, and what a reason tells.
use Rattle.std.proofs.Common.{inl, inr, ◌≡◌, ◌≢◌, ◌⊎◌, ◌<◌, ℕ, List, Err, IfErr, IfSome, None, Ok, Option, Result, Some, refl, subst, sym}
use Rattle.std.specs.Option.{option_map_or}
use Rattle.answer_text.specs.declared.status.TheConstants.{READ_FAULT, WRITE_FAULT}
use Rattle.plan_spec.specs.Query.{Query}
use Rattle.state_partial.specs.NoPart.{HasNoBegin, IsNoPart, IsStopOf, IsWhyOf, OfTile, TellsOfPart, no_part_says, no_words}
use Rattle.state_partial.specs.Places.{AreLeft, IsLonger, text_left}
use Rattle.state_partial.specs.TooLong.{IsLongPart}
use Rattle.state_partial.specs.Untaken.{untaken_in}
use Rattle.state_partial.specs.Words.{Asked, asked_in}
use Rattle.state_partial.specs.declared.no_part.NoPart.{NoPart}
use Rattle.state_partial.specs.declared.no_part.NoPart.TheVariants as no_part
use Rattle.state_partial.specs.declared.no_part.TheConstants.{WRITTEN}
use Rattle.state_partial.specs.declared.no_part.Untaken.{Untaken}
use Rattle.state_plan.specs.FilePlans.{AskFor}
use Rattle.stream_groups.specs.Stops.{Tells}
use Rattle.stream_groups.specs.Ways.{of_text}
use Rattle.stream_groups.specs.declared.stop.RefusedRow.{RefusedRow}
use Rattle.stream_groups.specs.declared.stop.Stop.{Stop}
use Rattle.stream_groups.specs.declared.stop.Stop.TheVariants as stop

-- a read failed, or the source has another size
abbrev pub IsReadFault : NoPart → Type 0
IsReadFault why = (why ≡ no_part.Stopped stop.ReadFault) ⊎ ((why ≡ no_part.Short) ⊎ (why ≡ no_part.Grown))

pub is_read_fault : (why : NoPart) → (no_part_says why).0 ≡ READ_FAULT → IsReadFault why
is_read_fault no_part.Usage is = cc is
is_read_fault (no_part.Untaken option) is = cc is
is_read_fault no_part.Long is = cc is
is_read_fault no_part.NoLine is = cc is
is_read_fault no_part.LongHeader is = cc is
is_read_fault no_part.Short is = inr (inl refl)
is_read_fault no_part.Grown is = inr (inr refl)
is_read_fault (no_part.Stopped stop.Usage) is = cc is
is_read_fault (no_part.Stopped stop.ReadFault) is = inl refl
is_read_fault (no_part.Stopped stop.NoHeader) is = cc is
is_read_fault (no_part.Stopped (stop.NoColumn said)) is = cc is
is_read_fault (no_part.Stopped (stop.TwiceColumn said)) is = cc is
is_read_fault (no_part.Stopped (stop.LongRecord row line said)) is = cc is
is_read_fault (no_part.Stopped (stop.Refused r)) is = cc is
is_read_fault (no_part.Stopped stop.WriteFault) is = cc is
is_read_fault (no_part.Stopped stop.Memory) is = cc is

pub is_write_fault : (why : NoPart) → (no_part_says why).0 ≡ WRITE_FAULT → why ≡ no_part.Stopped stop.WriteFault
is_write_fault no_part.Usage is = cc is
is_write_fault (no_part.Untaken option) is = cc is
is_write_fault no_part.Long is = cc is
is_write_fault no_part.NoLine is = cc is
is_write_fault no_part.LongHeader is = cc is
is_write_fault no_part.Short is = cc is
is_write_fault no_part.Grown is = cc is
is_write_fault (no_part.Stopped stop.Usage) is = cc is
is_write_fault (no_part.Stopped stop.ReadFault) is = cc is
is_write_fault (no_part.Stopped stop.NoHeader) is = cc is
is_write_fault (no_part.Stopped (stop.NoColumn said)) is = cc is
is_write_fault (no_part.Stopped (stop.TwiceColumn said)) is = cc is
is_write_fault (no_part.Stopped (stop.LongRecord row line said)) is = cc is
is_write_fault (no_part.Stopped (stop.Refused r)) is = cc is
is_write_fault (no_part.Stopped stop.WriteFault) is = refl
is_write_fault (no_part.Stopped stop.Memory) is = cc is

pub never_written : (why : NoPart) → (no_part_says why).0 ≢ WRITTEN
never_written no_part.Usage is = cc is
never_written (no_part.Untaken option) is = cc is
never_written no_part.Long is = cc is
never_written no_part.NoLine is = cc is
never_written no_part.LongHeader is = cc is
never_written no_part.Short is = cc is
never_written no_part.Grown is = cc is
never_written (no_part.Stopped stop.Usage) is = cc is
never_written (no_part.Stopped stop.ReadFault) is = cc is
never_written (no_part.Stopped stop.NoHeader) is = cc is
never_written (no_part.Stopped (stop.NoColumn said)) is = cc is
never_written (no_part.Stopped (stop.TwiceColumn said)) is = cc is
never_written (no_part.Stopped (stop.LongRecord row line said)) is = cc is
never_written (no_part.Stopped (stop.Refused r)) is = cc is
never_written (no_part.Stopped stop.WriteFault) is = cc is
never_written (no_part.Stopped stop.Memory) is = cc is

-- ---- what a reason tells

-- words that ask for no part
pub words_why : (words : List (List ℕ)) (left : Option (List ℕ)) (lacks : ℕ) (why : NoPart) → why ≡ no_words words → asked_in words ≡ None → IsNoPart words left lacks why
words_why words left lacks why is none = subst (IsNoPart words left lacks) (sym is) (go (untaken_in words) refl)
  where
    go : (o : Option Untaken) → untaken_in words ≡ o → IsNoPart words left lacks (option_map_or (λ option. no_part.Untaken option) o no_part.Usage)
    go None e = inl (none, e)
    go (Some option) e = (none, e)

module _ (words : List (List ℕ)) (left : Option (List ℕ)) (asked : Asked) (is_asked : asked_in words ≡ Some asked) (query : Query) (ask : AskFor asked.words query) where
  -- a tile that has no beginning
  no_begin_is : (lacks : ℕ) (why : NoPart) → HasNoBegin asked.extent (text_left query left) why → IsNoPart words left lacks why
  no_begin_is lacks no_part.Usage is = absurd is
  no_begin_is lacks (no_part.Untaken option) is = absurd is
  no_begin_is lacks no_part.Long is = absurd is
  no_begin_is lacks no_part.NoLine is = record { asked = asked; is_asked = is_asked; query = query; ask_for = ask; so = is }
  no_begin_is lacks no_part.LongHeader is = record { asked = asked; is_asked = is_asked; query = query; ask_for = ask; so = is }
  no_begin_is lacks no_part.Short is = inl (record { asked = asked; is_asked = is_asked; query = query; ask_for = ask; so = is })
  no_begin_is lacks no_part.Grown is = absurd is
  no_begin_is lacks (no_part.Stopped why) (inl is) = subst (IsStopOf words left) (sym is) tt
  no_begin_is lacks (no_part.Stopped why) (inr is) = subst (IsStopOf words left) (sym is) tt

  module _ (read : Option (List ℕ)) (are_left : AreLeft asked.extent (text_left query left) read) where
    tells_of : (why : Stop) → Tells (of_text query.reading) query read why → TellsOfPart words left why
    tells_of why tells = record { asked = asked; is_asked = is_asked; query = query; ask_for = ask; read = read; are_left = are_left; tells = tells }

    -- a reason why what was read comes to nothing, but for a refused row
    tells_stop : (why : Stop) → Tells (of_text query.reading) query read why → ((r : RefusedRow) → why ≡ stop.Refused r → ⊥) → IsStopOf words left why
    tells_stop stop.Usage tells no_row = absurd tells
    tells_stop stop.ReadFault tells no_row = tt
    tells_stop stop.NoHeader tells no_row = tells_of stop.NoHeader tells
    tells_stop (stop.NoColumn said) tells no_row = tells_of (stop.NoColumn said) tells
    tells_stop (stop.TwiceColumn said) tells no_row = tells_of (stop.TwiceColumn said) tells
    tells_stop (stop.LongRecord row line said) tells no_row = tells_of (stop.LongRecord row line said) tells
    tells_stop (stop.Refused r) tells no_row = absurd (no_row r refl)
    tells_stop stop.WriteFault tells no_row = tt
    tells_stop stop.Memory tells no_row = tt

-- ---- of whatever source brings this text with commas

module _ (words : List (List ℕ)) (asked : Asked) (is_asked : asked_in words ≡ Some asked) (query : Query) (ask : AskFor asked.words query) (old : Option (List ℕ)) (lacks : ℕ) where
  -- a tile that has no beginning
  pub begin_why : (why : NoPart) → HasNoBegin asked.extent old why → IsWhyOf words query old lacks why
  begin_why why none = λ left is. no_begin_is words left asked is_asked query ask lacks why (subst (λ (o : Option (List ℕ)). HasNoBegin asked.extent o why) is none)

  -- what was read comes to nothing
  read_why : (mid : Option (List ℕ)) (why : Stop) → AreLeft asked.extent old mid → Tells (of_text query.reading) query mid why → ((r : RefusedRow) → why ≡ stop.Refused r → ⊥) → IsWhyOf words query old lacks (no_part.Stopped why)
  read_why mid why are tells no_row = λ left is. tells_stop words left asked is_asked query ask mid (subst (λ (o : Option (List ℕ)). AreLeft asked.extent o mid) is are) why tells no_row

  -- or the source ended before its size
  pub stopped_why : (mid : Option (List ℕ)) (why : Stop) (result : NoPart) → AreLeft asked.extent old mid → Tells (of_text query.reading) query mid why → ((r : RefusedRow) → why ≡ stop.Refused r → ⊥)
      → ((result ≡ no_part.Short) × (why ≡ stop.ReadFault) × (0 < lacks)) ⊎ (result ≡ no_part.Stopped why) → IsWhyOf words query old lacks result
  stopped_why mid why result are tells no_row (inl short) = λ left is. subst (IsNoPart words left lacks) (sym short.0) (inr short.2)
  stopped_why mid why result are tells no_row (inr is_stop) = subst (IsWhyOf words query old lacks) (sym is_stop) (read_why mid why are tells no_row)

  -- the size is not that of the source
  pub grown_why : OfTile IsLonger asked.extent old → IsWhyOf words query old lacks no_part.Grown
  grown_why longer = λ left is. record { asked = asked; is_asked = is_asked; query = query; ask_for = ask; so = subst (OfTile IsLonger asked.extent) is longer }

  -- there is no file of what was read
  pub file_why : (why : NoPart) → (why ≡ no_part.Long) ⊎ (why ≡ no_part.Stopped stop.Memory) → (why ≡ no_part.Long → (left : Option (List ℕ)) → old ≡ text_left query left → IfSome left (IsLongPart asked)) → IsWhyOf words query old lacks why
  file_why why (inl is_long) long = λ left is. subst (IsNoPart words left lacks) (sym is_long) (record { asked = asked; is_asked = is_asked; long = long is_long left is })
  file_why why (inr is_memory) long = λ left is. subst (IsNoPart words left lacks) (sym is_memory) tt

pub err_both : {T E : Type 0} (r : Result T E) (P Q R : E → Type 0) → ((e : E) → P e → Q e → R e) → IfErr r P → IfErr r Q → IfErr r R
err_both (Ok x) P Q R f p q = tt
err_both (Err e) P Q R f p q = f e p q
