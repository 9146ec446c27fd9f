-- Parameters by their kinds, so that one list of them can stand in functions that differ in how many references come before them:
-- a function over a lent slice has one lifetime more than what it calls by value, and a function that is lent two arrays has two
-- more. The lifetimes that come before are the first: the lifetime j of the one is the j + 1 of the other.
--     Kind n                  a parameter of a function with n lifetimes: data by value, or a `&[R]` at the lifetime j
--     num w                   a number by value
--     args, shifts            the parameters as `Args.antt` has them, and the same behind one more lifetime
--     down, machine-down, owned-down     arguments behind one more lifetime, without it: their machine values, what they own
--     up, machine-up, owned-up, down-up  the other way round
--     twice                   what they own can be had twice
-- Assumes nothing.
use mathlib.Core.Path.{◌≡◌, refl, sym, ap, ◌∙◌}
use Prim.Native.Nat.{ℕ, suc}
use mathlib.Core.List.{List, [], ◌∷◌}
use seplogic.Ra.Ura.{Ura}
use mir.Syntax.{Width, named}
use mir.Val.{Val}
use base.Logic.{ent, sep, id⊢, mono∗}
use types.Logic.{Logic, sem}
use contract.Lifetimes.{Lfts, Within}
use types.Kit.{Item, ‵, ◌⊛◌, ◌$◌, ◌∵◌, !, qed, move, use1, split, fsplit, fjoin, done}
use denote.RattleType.{RattleType, RowLaws, Denots}
use denote.Slice.{shr_slice_copy}
use denote.Signature.{meet_at}
use denote.Steps.{nothing}
use Rattle.thin.proofs.Data.{Data, uint, copied}
use Rattle.thin.proofs.Args.{Arg, plain_arg, slice_arg, rows, machine, owned}

pub data Kind (n : ℕ) : Type 2 where
  by_value : Data → Kind n
  slice : (j : ℕ) → Within n j → (R : RattleType) → RowLaws R → Kind n

abbrev pub num : {n : ℕ} → Width → Kind n
num w = by_value (uint w)

abbrev arg : {n : ℕ} → Kind n → Arg n
arg (by_value d) = plain_arg d
arg (slice j ok R laws) = slice_arg j ok R

abbrev shift : {n : ℕ} → Kind n → Kind (suc n)
shift (by_value d) = by_value d
shift (slice j ok R laws) = slice (suc j) ok R laws

abbrev pub args : {n : ℕ} → List (Kind n) → List (Arg n)
args [] = []
args (k ∷ ks) = arg k ∷ args ks

abbrev pub shifts : {n : ℕ} → List (Kind n) → List (Kind (suc n))
shifts [] = []
shifts (k ∷ ks) = shift k ∷ shifts ks

module _ {n : ℕ} (κs : Lfts (suc n)) where
  -- one argument
  abbrev down₁ : (k : Kind n) → ((arg (shift k)).slot.row κs).Denot → ((arg k).slot.row κs.1).Denot
  down₁ (by_value d) x = x
  down₁ (slice j ok R laws) x = x

  abbrev up₁ : (k : Kind n) → ((arg k).slot.row κs.1).Denot → ((arg (shift k)).slot.row κs).Denot
  up₁ (by_value d) x = x
  up₁ (slice j ok R laws) x = x

  down-up₁ : (k : Kind n) (x : ((arg k).slot.row κs.1).Denot) → down₁ k (up₁ k x) ≡ x
  down-up₁ (by_value d) x = refl
  down-up₁ (slice j ok R laws) x = refl

  val-down₁ : (k : Kind n) (x : ((arg (shift k)).slot.row κs).Denot) → (arg k).val κs.1 (down₁ k x) ≡ (arg (shift k)).val κs x
  val-down₁ (by_value d) x = refl
  val-down₁ (slice j ok R laws) x = refl

  -- all of them
  abbrev pub down : (ks : List (Kind n)) → Denots (rows (args (shifts ks)) κs) → Denots (rows (args ks) κs.1)
  down [] a = tt
  down (k ∷ ks) a = (down₁ k a.0, down ks a.1)

  abbrev pub up : (ks : List (Kind n)) → Denots (rows (args ks) κs.1) → Denots (rows (args (shifts ks)) κs)
  up [] a = tt
  up (k ∷ ks) a = (up₁ k a.0, up ks a.1)

  pub down-up : (ks : List (Kind n)) (a : Denots (rows (args ks) κs.1)) → down ks (up ks a) ≡ a
  down-up [] a = refl
  down-up (k ∷ ks) a = λ i. (down-up₁ k a.0 i, down-up ks a.1 i)

  pub machine-down :
      (ks : List (Kind n)) (a : Denots (rows (args (shifts ks)) κs)) →
      machine κs.1 (args ks) (down ks a) ≡ machine κs (args (shifts ks)) a
  machine-down [] a = refl
  machine-down (k ∷ ks) a = λ i. val-down₁ k a.0 i ∷ machine-down ks a.1 i

  pub machine-up :
      (ks : List (Kind n)) (a : Denots (rows (args ks) κs.1)) →
      machine κs (args (shifts ks)) (up ks a) ≡ machine κs.1 (args ks) a
  machine-up ks a = sym (machine-down ks (up ks a)) ∙ ap (machine κs.1 (args ks)) (down-up ks a)

  module _ {M : Type 1} {𝓤 : Ura M} (𝓛 : Logic 𝓤) where
    owned-down₁ :
        (k : Kind n) (x : ((arg (shift k)).slot.row κs).Denot) →
        ent 𝓤 (sem 𝓛 (((arg (shift k)).slot.row κs).own_val x ((arg (shift k)).val κs x ∷ [])))
        (sem 𝓛 (((arg k).slot.row κs.1).own_val (down₁ k x) ((arg k).val κs.1 (down₁ k x) ∷ [])))
    owned-down₁ (by_value d) x = id⊢ 𝓤 _
    owned-down₁ (slice j ok R laws) x = id⊢ 𝓤 _

    owned-up₁ :
        (k : Kind n) (x : ((arg k).slot.row κs.1).Denot) →
        ent 𝓤 (sem 𝓛 (((arg k).slot.row κs.1).own_val x ((arg k).val κs.1 x ∷ [])))
        (sem 𝓛 (((arg (shift k)).slot.row κs).own_val (up₁ k x) ((arg (shift k)).val κs (up₁ k x) ∷ [])))
    owned-up₁ (by_value d) x = id⊢ 𝓤 _
    owned-up₁ (slice j ok R laws) x = id⊢ 𝓤 _

    pub owned-down :
        (ks : List (Kind n)) (a : Denots (rows (args (shifts ks)) κs)) →
        ent 𝓤 (sem 𝓛 (owned κs (args (shifts ks)) a)) (sem 𝓛 (owned κs.1 (args ks) (down ks a)))
    owned-down [] a = id⊢ 𝓤 _
    owned-down (k ∷ ks) a = mono∗ 𝓤 (owned-down₁ k a.0) (owned-down ks a.1)

    pub owned-up :
        (ks : List (Kind n)) (a : Denots (rows (args ks) κs.1)) →
        ent 𝓤 (sem 𝓛 (owned κs.1 (args ks) a)) (sem 𝓛 (owned κs (args (shifts ks)) (up ks a)))
    owned-up [] a = id⊢ 𝓤 _
    owned-up (k ∷ ks) a = mono∗ 𝓤 (owned-up₁ k a.0) (owned-up ks a.1)

module _ {n : ℕ} {M : Type 1} {𝓤 : Ura M} (𝓛 : Logic 𝓤) (κs : Lfts n) where
  twice₁ :
      (k : Kind n) (x : ((arg k).slot.row κs).Denot) (vs : List Val) →
      ent 𝓤 (sem 𝓛 (((arg k).slot.row κs).own_val x vs))
      (sep 𝓤 (sem 𝓛 (((arg k).slot.row κs).own_val x vs)) (sem 𝓛 (((arg k).slot.row κs).own_val x vs)))
  twice₁ (by_value d) x vs = (copied d 𝓛).twice x vs
  twice₁ (slice j ok R laws) x vs = (shr_slice_copy 𝓛 (named j) (meet_at n (j ∷ []) ok κs) R laws).twice x vs

  pub twice :
      (ks : List (Kind n)) (a : Denots (rows (args ks) κs)) →
      ent 𝓤 (sem 𝓛 (owned κs (args ks) a)) (sep 𝓤 (sem 𝓛 (owned κs (args ks) a)) (sem 𝓛 (owned κs (args ks) a)))
  twice [] a = qed 𝓛 [] ∵ nothing ! $ nothing ! $ done !
  twice (k ∷ ks) a =
      let one : Item 𝓤 = ‵ (((arg k).slot.row κs).own_val a.0 ((arg k).val κs a.0 ∷ [])) in
      let rest : Item 𝓤 = ‵ (owned κs (args ks) a.1) in
      qed 𝓛 (‵ (owned κs (args (k ∷ ks)) a) ∷ []) ∵ fsplit ! $
      use1 𝓛 (one ⊛ one) (twice₁ k a.0 ((arg k).val κs a.0 ∷ [])) $ split ! $ move ! (2 ∷ []) $
      use1 𝓛 (rest ⊛ rest) (twice ks a.1) $ split ! $
      move ! (2 ∷ 0 ∷ []) $ fjoin ! $ move ! (2 ∷ 1 ∷ []) $ fjoin ! $ done !
