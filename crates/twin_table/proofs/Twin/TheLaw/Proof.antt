-- A `&` to a `Twin` holds the table's invariant, as the `Twin` does for good.
use Rattle.std.proofs.Common.{[], ◌∷◌}
use seplogic.Ra.Ura.{Ura}
use base.Logic.{sep, wand, apply∗}
use base.Fml.{Lft, Fml, fbor}
use base.Before.{before}
use types.Logic.{Logic, sem, lfts}
use types.Kit.{‵, raw, ◌⊛◌, later, ◌$◌, !, qed, move, drop, split, use0, use1, use2, updating, await, now, done}
use contract.BorrowLft.{⊑_static}
use types.Na.{before-Incl}
use denote.Sharing.{ShrLaws}
use denote.Struct.Tuple.{Tuple}
use denote.RattleType.{RattleType}
use denote.Param.Laws.{Laws}
use denote.Param.Shared.{copy_shared}
use denote.Struct.Field.{RawPtr-field}
use denote.Struct.Laws.{RawPtr-copy, field_copy}
use denote.Struct.Lending.{Lends, of_Lends}
use Rattle.core.specs.contracts.marker.PhantomData as P
use Rattle.atomic_table.specs.declared.shared.TableRule.{Ghosts}
use Rattle.atomic_table.proofs.Shown.{shown_laws}
use Rattle.twin_table.specs.contracts.Twin as C
use Rattle.twin_table.proofs.Twin.TheLaw.Statement.{statement}

-- what holds for good may be lent for any time
lends_for_good : {M : Type 1} {𝓤 : Ura M} (𝓛 : Logic 𝓤) (t : Lft → Fml) → ShrLaws t → (l : Lft) → Lends 𝓛 (t []) t l
lends_for_good {M} {𝓤 = 𝓤} 𝓛 t s l κ ts inc sp = let F : Fml = t [] in let Back = 𝓛.H.⇛ (sep 𝓤 (𝓛.A.bor κ F) (lfts 𝓛 ts)) in
    qed 𝓛 (‵ (fbor κ F) ∷ raw (lfts 𝓛 ts) ∷ []) {P = 𝓛.H.⇛ (sep 𝓤 (sem 𝓛 (t κ)) (lfts 𝓛 ts))} (updating ! $ use2 𝓛 (later (‵ F ⊛ raw (wand 𝓤 (sem 𝓛 F) Back))) (𝓛.more.bor_acc_by κ ts F sp) $ await ! tt $ split ! $ use1 𝓛 (‵ F ⊛ ‵ F) (s.contraction M 𝓤 𝓛 []) $ split ! $ move ! (0 ∷ 2 ∷ []) $
    use2 𝓛 (later (‵ (fbor κ F) ⊛ raw (lfts 𝓛 ts))) (apply∗ 𝓤 (sem 𝓛 F) Back) $ await ! tt $ split ! $ drop ! $ use0 𝓛 (‵ (before κ [])) (before-Incl 𝓛 κ [] (⊑_static κ)) $ move ! (0 ∷ 2 ∷ []) $
    use2 𝓛 (‵ (t κ)) (s.mono M 𝓤 𝓛 κ []) $ now ! $ done !)

pub shares : (T U X Y : RattleType) (g : Ghosts Y.Denot T.Denot U.Denot X.Denot) (L : Laws T) (L' : Laws U) (K : Laws X) (L'' : Laws Y) → statement T U X Y g L L' K L''
shares T U X Y g L L' K L'' = let Both = Tuple (Y ∷ U ∷ X ∷ []) in of_Lends (C.struct T U X Y g) (C.the_codes T.Denot U.Denot X.Denot Y.Denot T.coded U.coded X.coded Y.coded (P.the_row Both).coded) (C.the_heap T U X Y g) (C.the_lent T U X Y g)
    (λ d p. shown_laws T U.coded (g.holds d.key) d.words d.slots d.table_id)
    (copy_shared RawPtr-field RawPtr-copy, (copy_shared RawPtr-field RawPtr-copy, (copy_shared (P.the_field Both) (field_copy (P.the_type Both) tt), tt)))
    (λ M 𝓤 𝓛 d p. lends_for_good 𝓛 _ (shown_laws T U.coded (g.holds d.key) d.words d.slots d.table_id) (C.the_row T U X Y g).lives)
