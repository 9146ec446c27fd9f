-- Types without references: one MIR type, a machine value that is a function of the denotation, and nothing owned but facts. The
-- laws asked of one are those that Rattle proves of every type that it declares.
--     Data                 such a type
--     uint, struct, enum   an unsigned integer; a declared struct; a declared enum
--     Two P Q              a struct of two fields, as an answer and a record: it is read field by field, and made of its fields
--     Three P Q Z          a struct of three fields: it is read field by field
--     lies, stands         what a local holds becomes what lies behind a reference to it, and the other way round
--     copied               what is owned can be had twice
-- Assumes nothing.
use mathlib.Core.Path.{◌≡◌, refl, sym, subst}
use Prim.Native.Nat.{ℕ}
use mathlib.Core.List.{List, [], ◌∷◌}
use lib.Dec.{T as Holds}
use seplogic.Ra.Ura.{Ura}
use base.Fraction.{full_share}
use mir.Syntax.{Sym, Ty, Width, ty_int, ty_struct, tcons, tnil}
use mir.Val.{Val, WT, has_ty, vint, vstruct, vcons, vnil}
use base.Logic.{ent, guard}
use base.Fml.{Fml, fat, fsep}
use types.Logic.{Logic, sem}
use types.Kit.{‵, ◌$◌, ◌∵◌, !, qed, move, use1, drop, rewrite, fsplit, fjoin, fpick, fpack, check, done}
use denote.RattleType.{RattleType}
use denote.Laws.{Is, shows, Tells, Makes, Copy}
use denote.Steps.{peeks, owned}
use denote.Memory.{lone, mem, cell_at, part_of}
use denote.Copied.{Copied, uint_Copied}
use denote.Plain.{UInt, uint_Tells, uint_Makes, uint_Lawful}
use denote.Exit.{Kept, unchanged}
use denote.Struct.Steps.{spelt}
use denote.Struct.Declared as S
use denote.Struct.Struct.{Plains}
use denote.Struct.Laws as SL
use denote.Enum.Declared as E
use denote.Enum.Enum.{Plainss, Few}
use denote.Enum.Laws as EL

-- tells: the machine value can only be `val`. makes: what is owned is had for nothing. still: at exit a value is as it was
-- passed. shared: it can be read behind a `&`
pub record Data : Type 2 where
  pub row : RattleType
  pub mir : Ty
  pub is_mir : row.mir ≡ mir ∷ []
  pub val : row.Denot → Val
  pub tells : Tells row (Is row) (λ x. val x ∷ [])
  pub makes : {M : Type 1} {𝓤 : Ura M} (𝓛 : Logic 𝓤) → Makes 𝓛 row (Is row)
  pub typed :
      {M : Type 1} {𝓤 : Ura M} (𝓛 : Logic 𝓤) →
      (x : row.Denot) (v : Val) → Is row x (v ∷ []) → Holds (has_ty mir v) × WT v
  pub still : (k : Kept) → row.exit k ≡ unchanged
  pub shared : {M : Type 1} {𝓤 : Ura M} (𝓛 : Logic 𝓤) → Copied 𝓛 row

abbrev pub uint : Width → Data
uint w = record {
  row = UInt w;
  mir = ty_int w;
  is_mir = refl;
  val = λ x. vint w x;
  tells = uint_Tells w;
  makes = λ 𝓛. uint_Makes 𝓛 w;
  typed = λ 𝓛 x v is. ((uint_Lawful 𝓛 w).typed x (v ∷ []) is).0;
  still = λ k. refl;
  shared = λ 𝓛. uint_Copied 𝓛 w;
}

abbrev pub struct : (T : S.Declared) → SL.Laws T → Plains (S.fields T) → SL.Copyables T.parts → Data
struct T laws plain copy = record {
  row = S.row T;
  mir = lone (S.row T).mir;
  is_mir = refl;
  val = SL.val T laws;
  tells = SL.tells T laws;
  makes = λ 𝓛. SL.makes T plain 𝓛;
  typed = λ 𝓛 x v is. ((SL.lawful T laws 𝓛).typed x (v ∷ []) is).0;
  still = SL.still T copy;
  shared = λ 𝓛. SL.copied T copy 𝓛;
}

abbrev pub enum : (T : E.Declared) → EL.Laws T → Plainss (E.variants T) → EL.Copyabless T.parts → Few (E.shape T) → Data
enum T laws plain copy few = record {
  row = E.row T;
  mir = lone (E.row T).mir;
  is_mir = refl;
  val = EL.val T laws;
  tells = EL.tells T laws;
  makes = λ 𝓛. EL.makes T plain 𝓛;
  typed = λ 𝓛 x v is. ((EL.lawful T laws 𝓛 few).typed x (v ∷ []) is).0;
  still = EL.still T copy;
  shared = λ 𝓛. EL.copied T copy 𝓛;
}

-- a value that is related to some machine value is related to its own
pub own_val : (d : Data) (x : d.row.Denot) (v : Val) → Is d.row x (v ∷ []) → Is d.row x (d.val x ∷ [])
own_val d x v is = subst (Is d.row x) (d.tells x (v ∷ []) is) is

-- the MIR type and the machine value of a struct of two fields
abbrev pub pair_ty : (P Q : Data) → Sym → Ty
pair_ty P Q name = ty_struct name (tcons P.mir (tcons Q.mir tnil))

abbrev pub pair_val : (P Q : Data) → P.row.Denot → Q.row.Denot → Val
pair_val P Q p q = vstruct (vcons (P.val p) (vcons (Q.val q) vnil))

-- parts: from the struct to its fields. whole: from the fields to the struct
pub record Two (P Q : Data) : Type 2 where
  pub row : RattleType
  pub name : Sym
  pub fst : row.Denot → P.row.Denot
  pub snd : row.Denot → Q.row.Denot
  pub make : P.row.Denot → Q.row.Denot → row.Denot
  pub eta : (r : row.Denot) → make (fst r) (snd r) ≡ r
  pub tells : Tells row (Is row) (λ r. pair_val P Q (fst r) (snd r) ∷ [])
  pub makes : {M : Type 1} {𝓤 : Ura M} (𝓛 : Logic 𝓤) → Makes 𝓛 row (Is row)
  pub typed :
      {M : Type 1} {𝓤 : Ura M} (𝓛 : Logic 𝓤) →
      (r : row.Denot) (v : Val) → Is row r (v ∷ []) → Holds (has_ty (pair_ty P Q name) v) × WT v
  pub parts :
      (r : row.Denot) (v : Val) → Is row r (v ∷ []) →
      Is P.row (fst r) (P.val (fst r) ∷ []) × Is Q.row (snd r) (Q.val (snd r) ∷ [])
  pub whole :
      (p : P.row.Denot) (q : Q.row.Denot) →
      Is P.row p (P.val p ∷ []) → Is Q.row q (Q.val q ∷ []) → Is row (make p q) (pair_val P Q p q ∷ [])

-- a struct of three fields, which is read field by field
abbrev pub triple_ty : (P Q Z : Data) → Sym → Ty
triple_ty P Q Z name = ty_struct name (tcons P.mir (tcons Q.mir (tcons Z.mir tnil)))

pub record Three (P Q Z : Data) : Type 2 where
  pub row : RattleType
  pub name : Sym
  pub fst : row.Denot → P.row.Denot
  pub snd : row.Denot → Q.row.Denot
  pub thd : row.Denot → Z.row.Denot
  pub tells :
      Tells row (Is row) (λ r. vstruct (vcons (P.val (fst r)) (vcons (Q.val (snd r)) (vcons (Z.val (thd r)) vnil))) ∷ [])
  pub typed :
      {M : Type 1} {𝓤 : Ura M} (𝓛 : Logic 𝓤) →
      (r : row.Denot) (v : Val) → Is row r (v ∷ []) → Holds (has_ty (triple_ty P Q Z name) v) × WT v
  pub parts :
      (r : row.Denot) (v : Val) → Is row r (v ∷ []) →
      Is P.row (fst r) (P.val (fst r) ∷ []) ×
      (Is Q.row (snd r) (Q.val (snd r) ∷ []) × Is Z.row (thd r) (Z.val (thd r) ∷ []))

-- what a local at the block b and the offset o holds, where it holds x
abbrev pub cell : (d : Data) → d.row.Denot → ℕ → ℕ → Fml
cell d x b o = fat full_share d.mir b o (d.val x)

module _ (d : Data) {M : Type 1} {𝓤 : Ura M} (𝓛 : Logic 𝓤) (x : d.row.Denot) (b o : ℕ) where
  pub lies : Is d.row x (d.val x ∷ []) → ent 𝓤 (sem 𝓛 (cell d x b o)) (sem 𝓛 ((mem d.row).own_at x b o))
  unfolding part_of
  lies is =
      qed 𝓛 (‵ (cell d x b o) ∷ []) ∵
      use1 𝓛 (‵ (cell_at full_share (d.mir ∷ []) (d.val x ∷ []) b o)) (𝓛.laws.at_raw full_share d.mir b o (d.val x)) $
      rewrite ! 0 (λ (τs : List Ty). ‵ (cell_at full_share τs (d.val x ∷ []) b o)) (sym d.is_mir) refl $
      owned ! d.row (Is d.row) (d.makes 𝓛) x _ is $ move ! (1 ∷ 0 ∷ []) $ fjoin ! $
      fpack ! (List Val) (λ us. fsep (cell_at full_share d.row.mir us b o) (d.row.own_val x us)) (d.val x ∷ []) $ done !

  pub stands : ent 𝓤 (sem 𝓛 ((mem d.row).own_at x b o)) (guard 𝓤 (Is d.row x (d.val x ∷ [])) (sem 𝓛 (cell d x b o)))
  unfolding part_of
  stands =
      qed 𝓛 (‵ ((mem d.row).own_at x b o) ∷ []) ∵ fpick ! (λ us. fsplit ! $
      spelt ! d.row (Is d.row) (shows 𝓛 d.row) (λ y. d.val y ∷ []) d.tells full_share x us b o $ move ! (1 ∷ []) $
      peeks ! d.row (Is d.row) (shows 𝓛 d.row) x _ (λ is. drop ! $ check ! is $
      rewrite ! 0 (λ (τs : List Ty). ‵ (cell_at full_share τs (d.val x ∷ []) b o)) d.is_mir refl $
      use1 𝓛 (‵ (cell d x b o)) (𝓛.laws.raw_at full_share d.mir b o (d.val x)) $ done !))

-- what is owned can be had twice
pub copied : (d : Data) {M : Type 1} {𝓤 : Ura M} (𝓛 : Logic 𝓤) → Copy 𝓛 d.row
copied d 𝓛 = record {
  twice = λ x vs.
      qed 𝓛 (‵ (d.row.own_val x vs) ∷ []) ∵ peeks ! d.row (Is d.row) (shows 𝓛 d.row) x vs (λ is.
      owned ! d.row (Is d.row) (d.makes 𝓛) x vs is $ done !);
}
