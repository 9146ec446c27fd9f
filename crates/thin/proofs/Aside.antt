-- A field that is passed to a call: MIR copies it into a local of its own first, but where it is a number, a bool or a pointer. So the
-- code of a function with any types has that local or not, and a walk goes through both alike.
--     aside τ                whether a field of the type τ is copied first
--     extra b τ, held b v    the local for it, where b is true, and what that holds
--     put b i src rest       the code rest, behind the copy of the place src into the local i
--     outs b i src           the operand by which the call then has it
--     sets_aside, reads_aside      the two in a walk. The local is one entry of the context (`Locals.antt`)
--     spots_aside            where the local is
-- Assumes nothing.
use mathlib.Core.Path.{◌≡◌, refl}
use Prim.Native.Nat.{ℕ}
use mathlib.Core.Bool.{Bool, true, false}
use mathlib.Core.List.{List, [], ◌∷◌, ◌++◌}
use lib.Dec.{T as Holds}
use lib.ListN.{get_or}
use seplogic.Ra.Ura.{Ura}
use mir.Syntax.{Ty, ty_int, ty_bool, ty_float, ty_ptr, ty_ref, Place, place, Opd as Operand, copy, rv_opd, seq, assign, Body as Code}
use mir.Val.{Val, WT, has_ty}
use prog.Wp.{Env, Calls, Loops, no_local}
use types.Logic.{Logic}
use types.Kit.{Item, ‵, nth, runs, Post as Posts, Step, step, ◌$◌, fsplit, fjoin}
use types.Run.{Opd, Opds, init, stop, of_opd, assigns}
use denote.Laws.{Typed}
use Rattle.thin.proofs.Locals.{Blocks, env_of, rooms, cells, Spots, finds_at, opds_all}

abbrev pub aside : Ty → Bool
aside (ty_int w) = false
aside ty_bool = false
aside (ty_float f) = false
aside ty_ptr = false
aside (ty_ref κ μ τ) = false
aside τ = true

abbrev pub extra : Bool → Ty → List Ty
extra true τ = τ ∷ []
extra false τ = []

abbrev pub held : Bool → Val → List Val
held true v = v ∷ []
held false v = []

abbrev pub put : Bool → ℕ → Place → Code → Code
put true i src rest = seq (assign (place i []) (rv_opd (copy src))) rest
put false i src rest = rest

abbrev pub outs : Bool → ℕ → Place → List Operand
outs true i src = copy (place i []) ∷ []
outs false i src = copy src ∷ []

pub spots_aside :
    (b : Bool) (τ : Ty) (bx : Blocks (extra b τ)) (E F : List (Ty × ℕ)) (i : ℕ) (d : Ty × ℕ) →
    get_or E i d ≡ get_or (env_of (extra b τ) bx ++ F) 0 d → Spots E i (extra b τ) bx d
spots_aside true τ bx E F i d e = (e, tt)
spots_aside false τ bx E F i d e = tt

pub typed_aside : (b : Bool) (τ : Ty) (v : Val) → Holds (has_ty τ v) × WT v → Typed (extra b τ) (held b v)
typed_aside true τ v ok = (ok, tt)
typed_aside false τ v ok = tt

module _ {M : Type 1} {𝓤 : Ura M} {𝓛 : Logic 𝓤} {K : Type 0} where
  open 𝓛 use {H}

  module _ {E : Env 𝓤 H} where
    pub sets_aside :
        K → (b : Bool) (τ : Ty) (bx : Blocks (extra b τ)) (v : Val) (i : ℕ) (src : Place)
        {C : Calls 𝓤 H} {Λ : Loops 𝓤 H} {rest : Code} {q : Posts 𝓤 H} {Γ : List (Item 𝓤)} →
        Holds (has_ty τ v) × WT v → Spots E i (extra b τ) bx (no_local 𝓤 H) →
        ((x y z : Item 𝓤) → Opd K 𝓛 (x ∷ y ∷ z ∷ Γ) E (copy src) v) →
        Step K 𝓛 (‵ (cells (extra b τ) bx (held b v)) ∷ Γ) (runs C Λ E rest q)
        (‵ (rooms (extra b τ) bx) ∷ Γ) (runs C Λ E (put b i src rest) q)
    sets_aside t true τ bx v i src ok spots reads =
        step (λ s. fsplit t $ fsplit t $
        assigns t (of_opd t (reads _ _ _)) (finds_at t spots.0 (stop t)) (init t 0 refl ok) $
        fjoin t $ fjoin t $ s)
    sets_aside t false τ bx v i src ok spots reads = step (λ s. s)

    pub reads_aside :
        K → (b : Bool) (n i : ℕ) (τ : Ty) (bx : Blocks (extra b τ)) (v : Val) (src : Place) {Γ : List (Item 𝓤)} →
        nth 𝓛 n Γ ≡ ‵ (cells (extra b τ) bx (held b v)) → Holds (has_ty τ v) × WT v →
        Spots E i (extra b τ) bx (no_local 𝓤 H) → Opds K 𝓛 Γ E (copy src ∷ []) (v ∷ []) → Opds K 𝓛 Γ E (outs b i src) (v ∷ [])
    reads_aside t true n i τ bx v src e ok spots reads = opds_all t n i (τ ∷ []) bx e refl (ok, tt) spots
    reads_aside t false n i τ bx v src e ok spots reads = reads
