-- An array of numbers as a type of `Data.antt`, and how a local gets its first value.
--     array w k      `[uN; k]`
--     Init d         a right side of MIR that needs nothing, the value of d that it makes, and that it makes it
--     Literal w c    the number c as an operand of MIR
--     filled w k c   `[c; k]`
--     big w k c      `[c; k]` of a number that MIR writes as `int_big`, as 2147483647: the generated code shows which
--     number w c     the number c
-- Assumes nothing.
use mathlib.Core.Path.{◌≡◌, refl, ap, subst}
use Prim.Native.Nat.{ℕ, zero, suc, ◌<◌, ◌^◌}
use mathlib.Core.List.{List, [], ◌∷◌, map}
use lib.Dec.{T as Holds, ltb, ltb→lt}
use lib.ListN.{replicate, length-replicate}
use seplogic.Ra.Ura.{Ura}
use mir.Syntax.{Width, Opd as Operand, Rv as RValue, ty_array, ty_int, int, int_big, repeat, rv_opd}
use mir.Val.{Val, Fits, vint, vstruct, of_list, bits}
use base.Logic.{via, guard_i}
use prog.Wp.{Env}
use types.Logic.{Logic}
use types.Kit.{Item, Go, ! }
use types.Run.{Rv, Opd, lit, of_opd}
use types.Part.{rep}
use denote.Shadow.{shadow}
use denote.Laws.{Is}
use denote.Copied.{uint_Copied, Array-Copied}
use denote.Plain.{UInt, uint_Tells, uint_Makes, uint_Lawful}
use denote.Array.{Array, each, array_val, Array-Tells, Array-Makes, Array-Lawful}
use Rattle.thin.proofs.Data.{Data, uint}

abbrev pub array : Width → ℕ → Data
array w k = record {
  row = Array (UInt w) k;
  mir = ty_array (ty_int w) k;
  is_mir = refl;
  val = λ xs. array_val (map (λ x. vint w x) xs);
  tells = Array-Tells (UInt w) (λ x. vint w x ∷ []) (uint_Tells w) k;
  makes = λ 𝓛. Array-Makes 𝓛 (UInt w) (uint_Makes 𝓛 w) k;
  typed = λ 𝓛 x v is. ((Array-Lawful 𝓛 (UInt w) (uint_Lawful 𝓛 w) k).typed x (v ∷ []) is).0;
  still = λ j. refl;
  shared = λ 𝓛. Array-Copied 𝓛 (UInt w) (uint_Copied 𝓛 w) tt k;
}

pub record Init (d : Data) : Type 2 where
  pub rv : RValue
  pub start : d.row.Denot
  pub is : Is d.row start (d.val start ∷ [])
  pub evals :
      {M : Type 1} {𝓤 : Ura M} (𝓛 : Logic 𝓤) (Γ : List (Item 𝓤)) (E : Env 𝓤 𝓛.H) →
      Rv (Go {0}) 𝓛 Γ E rv (d.val start)

pub map-replicate : (w : Width) (k c : ℕ) → replicate {A = Val} k (vint w c) ≡ map (λ x. vint w x) (replicate k c)
map-replicate w zero c = refl
map-replicate w (suc k) c = ap (λ (l : List Val). vint w c ∷ l) (map-replicate w k c)

pub each_same :
    (w : Width) (k c : ℕ) → c < 2 ^ bits w → shadow (each ℕ (UInt w).own_val (replicate k c) (map (λ x. vint w x) (replicate k c)))
each_same w zero c h = tt
each_same w (suc k) c h = ((refl, h), each_same w k c h)

pub record Literal (w : Width) (c : ℕ) : Type 2 where
  pub opd : Operand
  pub means :
      {M : Type 1} {𝓤 : Ura M} (𝓛 : Logic 𝓤) (Γ : List (Item 𝓤)) (E : Env 𝓤 𝓛.H) →
      Opd (Go {0}) 𝓛 Γ E opd (vint w c)

abbrev pub repeated : (w : Width) (k c : ℕ) → c < 2 ^ bits w → Literal w c → Init (array w k)
repeated w k c h x = record {
  rv = repeat x.opd k;
  start = replicate k c;
  is = (map (λ x. vint w x) (replicate k c), ((refl, length-replicate k c), each_same w k c h));
  evals =
      λ 𝓛 Γ E. subst (λ (l : List Val). Rv (Go {0}) 𝓛 Γ E (repeat x.opd k) (vstruct (of_list l))) (map-replicate w k c)
      (rep ! k (x.means 𝓛 Γ E));
}

abbrev pub filled : (w : Width) (k c : ℕ) → Holds (ltb c (2 ^ bits w)) → Init (array w k)
filled w k c ok = repeated w k c (ltb→lt c (2 ^ bits w) ok) (record { opd = int w c; means = λ 𝓛 Γ E. lit ! ok })

pub big-lit :
    {M : Type 1} {𝓤 : Ura M} (𝓛 : Logic 𝓤) (Γ : List (Item 𝓤)) (E : Env 𝓤 𝓛.H) (w : Width) (c : ℕ) →
    c < 2 ^ bits w → Opd (Go {0}) 𝓛 Γ E (int_big w c) (vint w c)
big-lit {𝓤 = 𝓤} 𝓛 Γ E w c h = record {
  go = λ Kt k. via 𝓤 (Kt (vint w c)) k (guard_i 𝓤 (Fits w c) (Kt (vint w c)) (record { fits = h }));
}

abbrev pub big : (w : Width) (k c : ℕ) → Holds (ltb c (2 ^ bits w)) → Init (array w k)
big w k c ok =
    let h : c < 2 ^ bits w = ltb→lt c (2 ^ bits w) ok in
    repeated w k c h (record { opd = int_big w c; means = λ 𝓛 Γ E. big-lit 𝓛 Γ E w c h })

abbrev pub number : (w : Width) (c : ℕ) → Holds (ltb c (2 ^ bits w)) → Init (uint w)
number w c ok =
    record { rv = rv_opd (int w c); start = c; is = (refl, ltb→lt c (2 ^ bits w) ok); evals = λ 𝓛 Γ E. of_opd ! (lit ! ok) }
