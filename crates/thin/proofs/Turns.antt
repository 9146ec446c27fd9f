-- A loop over a slice of structs that is lent, which opens something, hands a state from turn to turn, and stops at the first
-- refusal:
--     fn all(ts: &mut [S], k: K, ks ..) -> O {
--         let mut d = [..];
--         let mut f = [..];
--         let opened = open(&mut d, &mut f, k, ks ..);
--         if opened.0 != 0 { return done(opened.0, 0, opened.1); }
--         let mut q = opened.1;
--         for i in 0..ts.len() {
--             let turn = g(&mut d, &mut f, ts[i], q, ks ..);
--             if turn.0 != 0 { return done(turn.0, i, q); }
--             ts[i] = turn.1;
--             q = turn.2;
--         }
--         done(0, ts.len(), q)
--     }
-- where, with Q the small state,
--     fn open(d: &mut A₁, f: &mut A₂, k: K, ks ..) -> B         B is a struct of a refusal (a u8, 0 for none) and a Q
--     fn g(d: &mut A₁, f: &mut A₂, t: S, q: Q, ks ..) -> T      T is a struct of a refusal, an S and a Q
--     fn done(refusal: u8, served: usize, q: Q) -> O
-- If the three meet their contracts, then all returns what done makes of `begins` (`specs/Fold.antt`), and leaves its list. None
-- has a `requires`.
-- When the loop has served ys and zs are left, ys in front of the walk over zs from the present state is what the walk over all
-- gives. The slice is opened once, before the loop, and closed once, at each way out. d and f are lent anew for each call
-- (`Lends.antt`), and are not copied.
--     op, op₁, op₂           what open returns, and leaves in d and f
--     tu, tu₁, tu₂           likewise g.     fin     what done returns
--     Open, One, Done, All   the contracts of open, g, done and all
--     step_of, begin_of        a turn and the opening, as `specs/Fold.antt` has them
--     turns_fn                the code of all, where the three are called by the names open-key, turn-key and done-key
--     all-turns              the theorem, as the proof of such a function cites it
-- The types are any of `Data.antt`, the parameters ks any kinds of `Shifts.antt`. In the comments that list the context, `the
-- others` are these parameters, and `…` is the right to free the local named before it.
-- Assumes nothing.
use mathlib.Core.Path.{◌≡◌, refl, ap, sym, subst, ◌∙◌}
use Prim.Native.Nat.{ℕ, suc, ◌+◌, ◌*◌, ◌<◌, ◌^◌}
use native.Mathlib.Nat.{lt_trans, lt-suc_self, le_of_eq, add-zero, zero-add}
use native.Mathlib.Omega.{arith}
use mathlib.Core.Bool.{Bool, true, false}
use mathlib.Core.List.{List, [], ◌∷◌, ◌++◌}
use lib.Dec.{T as Holds, ltb, lit<}
use lib.ListN.{length, get_or, length-append}
use lib.Seq.{append_snoc, get_or-append_seam, set-append_seam}
use lib.WfN.{lt-wf_rel}
use seplogic.Ra.Ura.{Ura}
use base.Fraction.{full_share}
use mir.Syntax.{Ty, Callee, Fn, Body as Code, Opd as Operand, named, erased, ty_ref, ty_int, ty_bool, ty_ptr, w8, w64, mut, local}
use mir.Syntax.{value_local, memory_slot, place, deref, field, copy, int, op2, lt, ne, mul, add, offset, unsigned, rv_opd, addr_of}
use mir.Syntax.{skip, seq, assign, block, loop, cond, exit, call, return}
use mir.Val.{Val, Fits, vbool, vint, vptr}
use base.Logic.{SProp, ent, id⊢}
use base.Fml.{fat, froom, fdies, fobs, fauth, fobor}
use prog.Wp.{Env, Calls, Loops, WpFn, Tables, Closed, Wp, Out, no_local, after_turn, after_block, after_seq, at_return}
use prog.Wp.{returns as returnsᴼ}
use prog.Model.{Model}
use prog.Routine.{Routine, Env as Routines}
use types.Logic.{Logic}
use contract.Lifetimes.{Lfts, Shares, toks}
use contract.Running.{Running, tables, tables_of}
use types.Kit.{Item, cut, ‵, raw, some, given, ◌⊛◌, ⋆, mean, Post as Posts, post, any_q, at_ret, runs, lands, Go, Goal, Seq}
use types.Kit.{Step as Rule, step as rule, ◌$◌, ◌∵◌, !, qed, by, move, keep, drop, use0, use1, split, pick, learn, check, show}
use types.Kit.{rewrite, fsplit, fjoin, done}
use types.Run.{Opd, Opds, Finds, look, look_raw, init, store, store_raw, forget, stop, hop, fld, from, load, lit, addr, of_opd}
use types.Run.{bin, and_then, no_more, assigns, assigns_last, branches, skips, stays, leaves_loop, first, blocks, loops, again}
use types.Run.{Below, exec, land, returns_within, enter, alloc1, alloc0, params1, pass1, free1, free0}
use types.Part.{whole, sub, look_in}
use sound.WpLaws.{FmC, fm_of}
use borrow.Author.Rules.{scaled_Fits}
use borrow.Author.Tests.{lt-ltb, le-ltb}
use denote.RattleType.{Denots}
use denote.Laws.{Is, shows, Typed}
use denote.Memory.{mem, pointee, cell_at}
use denote.Ref.{MutBor}
use denote.Slice.{slice_ty, slice_val, Room, heres, coded_holeys}
use denote.Lend.{Held}
use denote.Index.{row, place as place_of, place_is, elem_out, elem_back, elem_put, opens_slice, closes_slice}
use denote.Steps.{only, owned, nothing}
use denote.Triple.Statement.{Contract, Triple}
use denote.Triple.Table.{entered, cited}
use Rattle.thin.specs.Fold.{Turn, Ran, along, serves, begins}
use Rattle.thin.proofs.Data.{Data, Two, Three, pair_ty, triple_ty, uint, cell, lies, stands}
use Rattle.thin.proofs.Init.{Init}
use Rattle.thin.proofs.Args.{Arg, plain_arg, rows, tys, machine, typed-all, owned as held}
use Rattle.thin.proofs.Shifts.{Kind, by_value, num, args, shifts, down, machine-down, owned-down, twice}
use Rattle.thin.proofs.Calls.{Value, calls-value}
use Rattle.thin.proofs.Lends.{Of, TwoLent, calls-lent}
use Rattle.thin.proofs.Over.{Over, Entry, Stayed, leaves, stays_meets}
use Rattle.thin.proofs.Along.{along-end, along_snoc, serving, refusing, cases, is_zero, is-more, next_fits}
use Rattle.thin.proofs.Folded.{unopened, begun}
use Rattle.thin.proofs.Aside.{aside, extra, held as moved, put, outs, sets_aside, reads_aside, spots_aside}
use Rattle.thin.proofs.Locals.{Spots, rooms}
use Rattle.thin.proofs.Locals.{Blocks, locals_of, env_of, cells, idle, copies, past, past-at, spots_fourth, alloc_all}
use Rattle.thin.proofs.Locals.{pass_all, forget-all, free_all, finds_at, opd-at, opds_all}

-- an `if` with no `else`, where its outcome is known: the code behind it runs, or its arm
module _ {M : Type 1} {𝓤 : Ura M} {𝓛 : Logic 𝓤} {K : Type 0} {Γ : List (Item 𝓤)} {E : Env 𝓤 𝓛.H}
    {C : Calls 𝓤 𝓛.H} {Λ : Loops 𝓤 𝓛.H} {q : Posts 𝓤 𝓛.H} where
  open 𝓛 use {H}

  goes_on :
      K → {c : Operand} {a b : Code} → Opd K 𝓛 Γ E c (vbool false) →
      Rule K 𝓛 Γ (runs C Λ E b q) Γ (runs C Λ E (seq (cond c a skip) b) q)
  goes_on t o = rule (λ s. first t $ branches t o (λ z. absurd z) (λ _. skips t $ record { prf = s.prf }))

  goes_in :
      K → {c : Operand} {a b : Code} → Opd K 𝓛 Γ E c (vbool true) →
      Rule K 𝓛 Γ (runs C Λ E a (any_q (after_seq 𝓤 H (Wp 𝓤 H C Λ E b (post 𝓤 H q)) (post 𝓤 H q)))) Γ
      (runs C Λ E (seq (cond c a skip) b) q)
  goes_in t o = rule (λ s. first t $ branches t o (λ _. s) (λ z. absurd z))

-- a local that was lent and isn't needed any more
vacates :
    (d : Data) {M : Type 1} {𝓤 : Ura M} (𝓛 : Logic 𝓤) (x : d.row.Denot) (b : ℕ)
    {Γ : List (Item 𝓤)} {G : Goal 𝓤 𝓛.H} →
    Rule (Go {0}) 𝓛 (‵ (froom d.mir b 0) ∷ Γ) G (‵ ((mem d.row).own_at x b 0) ∷ Γ) G
vacates d {𝓤 = 𝓤} 𝓛 x b = rule (λ s.
    use1 𝓛 (given (Is d.row x (d.val x ∷ [])) (‵ (cell d x b 0))) (stands d 𝓛 x b 0) $
    learn ! (λ _. forget ! 0 refl $ s))

abbrev word : Ty
word = ty_int w64

-- what done takes
abbrev ended : Data → List (Kind 0)
ended Q = num w8 ∷ num w64 ∷ by_value Q ∷ []

-- S is the elements' type, D any value of it, and little says that its size is a number of MIR. i₁ and i₂ are how d and f begin
module _ {S Q A₁ A₂ : Data} (K : Data) (B : Two (uint w8) Q) (T : Three (uint w8) S Q) (O : Data) (D : S.row.Denot)
    (little : Holds (ltb (mem S.row).size (2 ^ 64))) (i₁ : Init A₁) (i₂ : Init A₂) {n : ℕ} (ks : List (Kind n)) where
  -- the elements, and the state: q, d and f
  abbrev X : Type 0
  X = S.row.Denot

  abbrev State : Type 0
  State = Q.row.Denot × (A₁.row.Denot × A₂.row.Denot)

  abbrev inputs : List (Arg (suc n))
  inputs = plain_arg K ∷ args (shifts ks)

  abbrev τs : List Ty
  τs = tys (args (shifts ks))

  abbrev TyB : Ty
  TyB = pair_ty (uint w8) Q B.name

  abbrev TyT : Ty
  TyT = triple_ty (uint w8) S Q T.name

  abbrev ref₁ : Ty
  ref₁ = ty_ref erased mut (pointee A₁.row.written)

  abbrev ref₂ : Ty
  ref₂ = ty_ref erased mut (pointee A₂.row.written)

  abbrev slice_t : Ty
  slice_t = slice_ty (ty_ref (named 0) mut (pointee S.row.written))

  -- the local j places after the parameters: d, f, opened, q, i, the turn, the two references that open gets, and a test
  abbrev # : ℕ → ℕ
  # j = suc (suc (suc (past τs j)))

  -- then the state of opened, where MIR copies it before it hands it out (`Aside.antt`)
  abbrev apart : Bool
  apart = aside Q.mir

  abbrev spare : List Ty
  spare = extra apart Q.mir

  abbrev nine : ℕ → ℕ
  nine j = suc (suc (suc (suc (suc (suc (suc (suc (suc j))))))))

  -- the local j places after that: the length, a test, the two references that g gets, the scaled index, the place that is read,
  -- what is read, the element that the turn gives, the place that is written, and the length again
  abbrev ## : ℕ → ℕ
  ## j = # (nine (past spare j))

  module _ (open-key turn-key done-key : Callee) where
    abbrev turn : Code
    turn =
        seq (assign (place (## 1) []) (op2 (lt unsigned) (copy (place (# 4) [])) (copy (place (## 0) []))))
        (seq (cond (copy (place (## 1) [])) skip (exit 1))
        (seq (assign (place (## 2) []) (addr_of (place (# 0) [])))
        (seq (assign (place (## 3) []) (addr_of (place (# 1) [])))
        (seq (assign (place (## 4) []) (op2 (mul unsigned) (copy (place (# 4) [])) (int w64 (mem S.row).size)))
        (seq (assign (place (## 5) []) (op2 offset (copy (place 1 (field 0 ∷ []))) (copy (place (## 4) []))))
        (seq (assign (place (## 6) []) (rv_opd (copy (place (## 5) (deref S.mir ∷ [])))))
        (seq (call turn-key
        (copy (place (## 2) []) ∷ copy (place (## 3) []) ∷ copy (place (## 6) []) ∷ copy (place (# 3) []) ∷ copies 3 τs)
        (place (# 5) []))
        (seq (assign (place (## 1) []) (op2 ne (copy (place (# 5) (field 0 ∷ []))) (int w8 0)))
        (seq (cond (copy (place (## 1) []))
        (seq (call done-key (copy (place (# 5) (field 0 ∷ [])) ∷ copy (place (# 4) []) ∷ copy (place (# 3) []) ∷ []) (place 0 []))
        return) skip)
        (seq (assign (place (## 7) []) (rv_opd (copy (place (# 5) (field 1 ∷ [])))))
        (seq (assign (place (## 4) []) (op2 (mul unsigned) (copy (place (# 4) [])) (int w64 (mem S.row).size)))
        (seq (assign (place (## 8) []) (op2 offset (copy (place 1 (field 0 ∷ []))) (copy (place (## 4) []))))
        (seq (assign (place (## 8) (deref S.mir ∷ [])) (rv_opd (copy (place (## 7) []))))
        (seq (assign (place (# 3) []) (rv_opd (copy (place (# 5) (field 2 ∷ [])))))
        (assign (place (# 4) []) (op2 (add unsigned) (copy (place (# 4) [])) (int w64 1)))))))))))))))))

    abbrev end : Code
    end =
        seq (assign (place (## 9) []) (rv_opd (copy (place 1 (field 1 ∷ [])))))
        (seq (call done-key (int w8 0 ∷ copy (place (## 9) []) ∷ copy (place (# 3) []) ∷ []) (place 0 [])) return)

    abbrev code : Code
    code =
        seq (assign (place (# 0) []) i₁.rv)
        (seq (assign (place (# 1) []) i₂.rv)
        (seq (assign (place (# 6) []) (addr_of (place (# 0) [])))
        (seq (assign (place (# 7) []) (addr_of (place (# 1) [])))
        (seq (call open-key (copy (place (# 6) []) ∷ copy (place (# 7) []) ∷ copy (place 2 []) ∷ copies 3 τs) (place (# 2) []))
        (seq (assign (place (# 8) []) (op2 ne (copy (place (# 2) (field 0 ∷ []))) (int w8 0)))
        (seq (cond (copy (place (# 8) []))
        (put apart (# 9) (place (# 2) (field 1 ∷ []))
        (seq (call done-key
        (copy (place (# 2) (field 0 ∷ [])) ∷ int w64 0 ∷ outs apart (# 9) (place (# 2) (field 1 ∷ []))) (place 0 [])) return)) skip)
        (seq (assign (place (# 3) []) (rv_opd (copy (place (# 2) (field 1 ∷ [])))))
        (seq (assign (place (# 4) []) (rv_opd (int w64 0)))
        (seq (assign (place (## 0) []) (rv_opd (copy (place 1 (field 1 ∷ [])))))
        (seq (block (loop turn)) end))))))))))

    abbrev pub turns_fn : Fn
    turns_fn = record {
      lifetimes = suc n;
      outlives = [];
      ty_params = [];
      givens = 0;
      params = suc (suc (past τs 0));
      locals =
          local O.mir value_local ∷ local slice_t value_local ∷ local K.mir value_local ∷
          (locals_of τs ++
          (local A₁.mir memory_slot ∷ local A₂.mir memory_slot ∷ local TyB value_local ∷ local Q.mir value_local ∷
          local word value_local ∷ local TyT value_local ∷ local ref₁ value_local ∷ local ref₂ value_local ∷ local ty_bool value_local ∷
          (locals_of spare ++
          (local word value_local ∷ local ty_bool value_local ∷ local ref₁ value_local ∷ local ref₂ value_local ∷
          local word value_local ∷ local ty_ptr value_local ∷ local S.mir value_local ∷ local S.mir value_local ∷
          local ty_ptr value_local ∷ local word value_local ∷ []))));
      body = code;
    }

  -- what open and g take beside d and f
  abbrev opening : List (Kind n)
  opening = by_value K ∷ ks

  abbrev serving_one : List (Kind n)
  serving_one = by_value S ∷ by_value Q ∷ ks

  module _ (op : Of A₁.row A₂.row opening B.row) (op₁ : Of A₁.row A₂.row opening A₁.row)
      (op₂ : Of A₁.row A₂.row opening A₂.row) (tu : Of A₁.row A₂.row serving_one T.row)
      (tu₁ : Of A₁.row A₂.row serving_one A₁.row) (tu₂ : Of A₁.row A₂.row serving_one A₂.row)
      (fin : ℕ → ℕ → Q.row.Denot → O.row.Denot) where
    abbrev pub Open : {M : Type 1} {𝓤 : Ura M} (𝓛 : Logic 𝓤) → Contract 𝓤
    Open = TwoLent A₁.row A₂.row opening B.row op op₁ op₂

    abbrev pub One : {M : Type 1} {𝓤 : Ura M} (𝓛 : Logic 𝓤) → Contract 𝓤
    One = TwoLent A₁.row A₂.row serving_one T.row tu tu₁ tu₂

    abbrev pub Done : {M : Type 1} {𝓤 : Ura M} (𝓛 : Logic 𝓤) → Contract 𝓤
    Done = Value (args (ended Q)) O.row (λ _ t. fin t.0 t.1.0 t.1.1.0)

    abbrev pub step_of : (κs : Lfts n) → Denots (rows (args ks) κs) → X → State → Turn X State
    step_of κs a e z =
        let r : T.row.Denot = tu κs z.1.0 z.1.1 (e, (z.0, a)) in
        (T.fst r, (T.snd r, (T.thd r, (tu₁ κs z.1.0 z.1.1 (e, (z.0, a)), tu₂ κs z.1.0 z.1.1 (e, (z.0, a))))))

    abbrev pub begin_of : (κs : Lfts n) → Denots (rows (args opening) κs) → ℕ × State
    begin_of κs a =
        let r : B.row.Denot = op κs i₁.start i₂.start a in
        (B.fst r, (B.snd r, (op₁ κs i₁.start i₂.start a, op₂ κs i₁.start i₂.start a)))

    abbrev run : (κs : Lfts (suc n)) → List X → Denots (rows inputs κs) → Ran X State
    run κs xs a = begins (step_of κs.1 (down κs ks a.1)) (begin_of κs.1 (a.0, down κs ks a.1)) xs

    abbrev of : (κs : Lfts (suc n)) → List X → Denots (rows inputs κs) → O.row.Denot
    of κs xs a = let w : Ran X State = run κs xs a in fin w.0 w.1.0 w.1.1.1.0

    abbrev of₁ : (κs : Lfts (suc n)) → List X → Denots (rows inputs κs) → List X
    of₁ κs xs a = (run κs xs a).1.1.0

    abbrev pub All : {M : Type 1} {𝓤 : Ura M} (𝓛 : Logic 𝓤) → Contract 𝓤
    All = Over S.row inputs O of of₁

    abbrev tvals : X → List Val
    tvals e = S.val e ∷ []

    module _ {M : Type 1} {𝓤 : Ura M} (𝓛 : Logic 𝓤) (κs : Lfts (suc n)) (qs : Shares (suc n))
        (x : MutBor (List X)) (k : K.row.Denot) (a : Denots (rows (args (shifts ks)) κs)) where
      open 𝓛 use {H}

      abbrev b : ℕ
      b = x.ref_ptr.0

      abbrev o : ℕ
      o = x.ref_ptr.1

      abbrev xs : List X
      xs = x.now

      abbrev m : ℕ
      m = length xs

      abbrev sv : Val
      sv = slice_val (b, o) m

      abbrev vs : List Val
      vs = machine κs (args (shifts ks)) a

      abbrev a' : Denots (rows (args ks) κs.1)
      a' = down κs ks a

      -- what open gives, what a turn gives, and what all of it gives
      abbrev opened : B.row.Denot
      opened = op κs.1 i₁.start i₂.start (k, a')

      abbrev first_state : ℕ × State
      first_state = begin_of κs.1 (k, a')

      abbrev z₁ : State
      z₁ = first_state.1

      abbrev out : X → State → T.row.Denot
      out e z = tu κs.1 z.1.0 z.1.1 (e, (z.0, a'))

      abbrev step : X → State → Turn X State
      step = step_of κs.1 a'

      abbrev next : X → State → State
      next e z = (step e z).1.1

      abbrev ran : Ran X State
      ran = run κs xs (k, a)

      -- the result and the list, where the walk gives them
      answered : (c j : ℕ) (ys : List X) (z : State) → ran ≡ (c, (j, (ys, z))) → fin c j z.0 ≡ of κs xs (k, a)
      answered c j ys z e = sym (ap (λ (w : Ran X State). fin w.0 w.1.0 w.1.1.1.0) e)

      left : (c j : ℕ) (ys : List X) (z : State) → ran ≡ (c, (j, (ys, z))) → ys ≡ of₁ κs xs (k, a)
      left c j ys z e = sym (ap (λ (w : Ran X State). w.1.1.0) e)

      -- the tokens of the other parameters' lifetimes, and what they own
      abbrev tokens : Item 𝓤
      tokens = raw (toks 𝓛 n κs.1 qs.1)

      abbrev others : Item 𝓤
      others = ‵ (held κs.1 (args ks) a')

      abbrev Post : Val → SProp 𝓤
      Post = Stayed S.row inputs O of of₁ 𝓛 κs qs x (k, a)

      module _ (𝓣 : Tables 𝓤 H) (open-key turn-key done-key : Callee) (open-known : Triple 𝓤 (𝓣.C open-key) (Open 𝓛))
          (turn-known : Triple 𝓤 (𝓣.C turn-key) (One 𝓛)) (done-known : Triple 𝓤 (𝓣.C done-key) (Done 𝓛))
          (room : Room S.row m) (is-k : Is K.row k (K.val k ∷ [])) (ty : Typed τs vs) where
        abbrev fm : FmC 𝓤 H 𝓛.laws 𝓣.C
        fm = fm_of 𝓤 H 𝓛.laws 𝓣

        module _ (l₀ l₁ l₂ : ℕ) (bs : Blocks τs) (ld lf lg lq li lt' lx ly lh : ℕ) (bx : Blocks spare)
            (ln lb lx' ly' lw lp lc le lv ll : ℕ) where
          abbrev F' : List (Ty × ℕ)
          F' =
              (word, ln) ∷ (ty_bool, lb) ∷ (ref₁, lx') ∷ (ref₂, ly') ∷ (word, lw) ∷ (ty_ptr, lp) ∷ (S.mir, lc) ∷ (S.mir, le) ∷
              (ty_ptr, lv) ∷ (word, ll) ∷ []

          abbrev F : List (Ty × ℕ)
          F =
              (A₁.mir, ld) ∷ (A₂.mir, lf) ∷ (TyB, lg) ∷ (Q.mir, lq) ∷ (word, li) ∷ (TyT, lt') ∷ (ref₁, lx) ∷ (ref₂, ly) ∷
              (ty_bool, lh) ∷ (env_of spare bx ++ F')

          abbrev E : Env 𝓤 H
          E = (O.mir, l₀) ∷ (slice_t, l₁) ∷ (K.mir, l₂) ∷ (env_of τs bs ++ F)

          at : (j : ℕ) → get_or E (# j) (no_local 𝓤 H) ≡ get_or F j (no_local 𝓤 H)
          at j = past-at τs bs F j (no_local 𝓤 H)

          to :
              {Γ : List (Item 𝓤)} (j : ℕ) →
              Finds (Go {0}) 𝓛 Γ E (place (# j) []) ((get_or F j (no_local 𝓤 H)).0, (get_or F j (no_local 𝓤 H)).1, 0)
          to j = finds_at ! (at j) (stop !)

          at' : (j : ℕ) → get_or E (## j) (no_local 𝓤 H) ≡ get_or F' j (no_local 𝓤 H)
          at' j = at (nine (past spare j)) ∙ past-at spare bx F' j (no_local 𝓤 H)

          to' :
              {Γ : List (Item 𝓤)} (j : ℕ) →
              Finds (Go {0}) 𝓛 Γ E (place (## j) []) ((get_or F' j (no_local 𝓤 H)).0, (get_or F' j (no_local 𝓤 H)).1, 0)
          to' j = finds_at ! (at' j) (stop !)

          spots : Spots E (# 9) spare bx (no_local 𝓤 H)
          spots = spots_aside apart Q.mir bx E F' (# 9) (no_local 𝓤 H) (at 9)

          -- ys are served, zs are left, and the state is z: [the elements; i; q; d; f]
          abbrev Parts : List X → List X → State → List (Item 𝓤)
          Parts ys zs z =
              ‵ (row S.row full_share (ys ++ zs) b o) ∷ ‵ (fat full_share word li 0 (vint w64 (length ys))) ∷
              ‵ (fat full_share Q.mir lq 0 (Q.val z.0)) ∷ ‵ ((mem A₁.row).own_at z.1.0 ld 0) ∷
              ‵ ((mem A₂.row).own_at z.1.1 lf 0) ∷ []

          abbrev parts : List X → List X → State → Item 𝓤
          parts ys zs z =
              ‵ (row S.row full_share (ys ++ zs) b o) ⊛ ‵ (fat full_share word li 0 (vint w64 (length ys))) ⊛
              ‵ (fat full_share Q.mir lq 0 (Q.val z.0)) ⊛ ‵ ((mem A₁.row).own_at z.1.0 ld 0) ⊛
              ‵ ((mem A₂.row).own_at z.1.1 lf 0)

          -- t elements are left
          abbrev Inv : ℕ → List X → List X → State → Type 0
          Inv t ys zs z =
              (length zs ≡ t) ×
              ((length ys + length zs ≡ m) × ((ran ≡ along ys (serves step zs z)) × Is Q.row z.0 (Q.val z.0 ∷ [])))

          abbrev St : ℕ → Item 𝓤
          St t =
              some
              (λ (j : List X × (List X × State)). given (Inv t j.0 j.1.0 j.1.1) (parts j.0 j.1.0 j.1.1))

          st_in : (t : ℕ) (ys zs : List X) (z : State) → Inv t ys zs z → ent 𝓤 (⋆ 𝓛 (Parts ys zs z)) (mean 𝓛 (St t))
          st_in t ys zs z inv =
              qed 𝓛 (Parts ys zs z) ∵
              show !
              (λ (j : List X × (List X × State)).
              mean 𝓛 (given (Inv t j.0 j.1.0 j.1.1) (parts j.0 j.1.0 j.1.1)))
              (ys, (zs, z)) $ check ! inv $ done !

          -- the rest of the context: [the tokens; what the others own; the open borrow; obs; auth; the others' cells; room for
          -- the state of opened; the length again; …; the place written; …; the element that the turn gives; …; what is read; …; the place read; …; the scaled index; …; g's second reference; …; its
          -- first; …; a test; …; the length; …; a test; …; open's second reference; …; its first; …; the turn; …; the right to free
          -- i; that to free q; opened; …; the right to free f; that to free d; k; …; the slice; …; _0; …]
          abbrev Rest : Item 𝓤 → Item 𝓤 → List (Item 𝓤)
          Rest count result =
              tokens ∷ others ∷ ‵ (fobor κs.0 qs.0 (Held S.row m b o x.ghost_name)) ∷
              ‵ (fobs x.ghost_name ((coded_holeys S.row).code (heres S.row xs))) ∷
              ‵ (fauth x.ghost_name ((coded_holeys S.row).code (heres S.row xs))) ∷ ‵ (cells τs bs vs) ∷
              ‵ (rooms spare bx) ∷
              (idle word ll ++ idle ty_ptr lv ++ idle S.mir le ++ idle S.mir lc ++ idle ty_ptr lp ++ idle word lw ++
              idle ref₂ ly' ++ idle ref₁ lx' ++ idle ty_bool lb ++ (count ∷ ‵ (fdies word ln) ∷ []) ++ idle ty_bool lh ++ idle ref₂ ly ++
              idle ref₁ lx ++ idle TyT lt' ++ (‵ (fdies word li) ∷ ‵ (fdies Q.mir lq) ∷ []) ++ idle TyB lg ++
              (‵ (fdies A₂.mir lf) ∷ ‵ (fdies A₁.mir ld) ∷ ‵ (fat full_share K.mir l₂ 0 (K.val k)) ∷
              ‵ (fdies K.mir l₂) ∷ ‵ (fat full_share slice_t l₁ 0 sv) ∷ ‵ (fdies slice_t l₁) ∷ result ∷ ‵ (fdies O.mir l₀) ∷ []))

          -- in the loop
          abbrev Frame : List (Item 𝓤)
          Frame = Rest (‵ (fat full_share word ln 0 (vint w64 m))) (‵ (froom O.mir l₀ 0))

          -- before the loop and at a way out, with the elements ys and room for d, f, q and i
          abbrev Idle : List X → Item 𝓤 → List (Item 𝓤)
          Idle ys result =
              ‵ (row S.row full_share ys b o) ∷ ‵ (froom A₁.mir ld 0) ∷ ‵ (froom A₂.mir lf 0) ∷ ‵ (froom Q.mir lq 0) ∷
              ‵ (froom word li 0) ∷ Rest (‵ (froom word ln 0)) result

          abbrev I : ℕ → List (Item 𝓤)
          I t = St t ∷ Frame

          -- when the loop is left, the rest of the body runs
          abbrev Left : Out → SProp 𝓤
          Left =
              after_block 𝓤 H
              (after_seq 𝓤 H (Wp 𝓤 H 𝓣.C 𝓣.Λ E (end open-key turn-key done-key) (at_return 𝓤 H E Post)) (at_return 𝓤 H E Post))

          abbrev Round : ℕ → Goal 𝓤 H
          Round t = runs 𝓣.C 𝓣.Λ E (turn open-key turn-key done-key) (any_q (after_turn 𝓤 H (Below 𝓛 ◌<◌ I t) Left))

          -- the call of done
          hands :
              (c j : ℕ) (z : Q.row.Denot) → Is (uint w8).row c (vint w8 c ∷ []) → Is (uint w64).row j (vint w64 j ∷ []) →
              Is Q.row z (Q.val z ∷ []) →
              {Γ : List (Item 𝓤)} {q : Posts 𝓤 H} {ops : List Operand} →
              ((i : Item 𝓤) → Opds (Go {0}) 𝓛 (i ∷ Γ) E ops (vint w8 c ∷ vint w64 j ∷ Q.val z ∷ [])) →
              ((v : Val) → Is O.row (fin c j z) (v ∷ []) → Seq (Go {0}) 𝓛 Γ (lands 𝓣.C 𝓣.Λ E (place 0 []) v return q)) →
              Seq (Go {0}) 𝓛 Γ (runs 𝓣.C 𝓣.Λ E (seq (call done-key ops (place 0 [])) return) q)
          hands c j z is_c is-j is-z ops then =
              nothing ! $ owned ! Q.row (Is Q.row) (Q.makes 𝓛) z _ is-z $ fjoin ! $
              owned ! (uint w64).row (Is (uint w64).row) ((uint w64).makes 𝓛) j _ is-j $ fjoin ! $
              owned ! (uint w8).row (Is (uint w8).row) ((uint w8).makes 𝓛) c _ is_c $ fjoin ! $
              use0 𝓛 (raw (toks 𝓛 0 tt tt)) (id⊢ 𝓤 _) $
              calls-value (args (ended Q)) O.row (λ _ t. fin t.0 t.1.0 t.1.1.0) 𝓛 tt tt (c, (j, (z, tt))) fm
              done-key done-known ops (λ v is. drop ! $ then v is)

          -- a way out: the result r is stored, and the list is ys
          ends :
              (v : Val) (r : O.row.Denot) (ys : List X) → r ≡ of κs xs (k, a) → ys ≡ of₁ κs xs (k, a) → length ys ≡ m →
              Is O.row r (v ∷ []) →
              {q : Posts 𝓤 H} → post 𝓤 H q returnsᴼ ≡ at_return 𝓤 H E Post returnsᴼ →
              Seq (Go {0}) 𝓛 (Idle ys (‵ (fat full_share O.mir l₀ 0 v))) (runs 𝓣.C 𝓣.Λ E return q)
          ends v r ys is-r is-ys len is at_return_lem =
              move ! (0 ∷ 7 ∷ 8 ∷ 9 ∷ []) $ closes_slice ! tt S.row xs ys len b o $
              returns_within ! Post at_return_lem (look ! 49 refl) $ forget ! 49 refl $ forget ! 47 refl $ forget ! 45 refl $
              move ! (49 ∷ 50 ∷ []) $ free1 ! $ move ! (47 ∷ 48 ∷ []) $ free1 ! $ move ! (45 ∷ 46 ∷ []) $ free1 ! $
              move ! (9 ∷ []) $ forget-all ! τs bs vs $ free_all ! τs bs F $ move ! (3 ∷ 43 ∷ []) $ free1 ! $
              move ! (3 ∷ 41 ∷ []) $ free1 ! $ move ! (38 ∷ 39 ∷ []) $ free1 ! $ move ! (3 ∷ 37 ∷ []) $ free1 ! $
              move ! (3 ∷ 35 ∷ []) $ free1 ! $ move ! (32 ∷ 33 ∷ []) $ free1 ! $ move ! (30 ∷ 31 ∷ []) $ free1 ! $
              move ! (28 ∷ 29 ∷ []) $ free1 ! $ move ! (26 ∷ 27 ∷ []) $ free1 ! $ move ! (5 ∷ []) $ free_all ! spare bx F' $
              move ! (23 ∷ 24 ∷ []) $ free1 ! $ move ! (21 ∷ 22 ∷ []) $ free1 ! $
              move ! (19 ∷ 20 ∷ []) $ free1 ! $ move ! (17 ∷ 18 ∷ []) $ free1 ! $ move ! (15 ∷ 16 ∷ []) $ free1 ! $
              move ! (13 ∷ 14 ∷ []) $ free1 ! $ move ! (11 ∷ 12 ∷ []) $ free1 ! $ move ! (9 ∷ 10 ∷ []) $ free1 ! $
              move ! (7 ∷ 8 ∷ []) $ free1 ! $ move ! (5 ∷ 6 ∷ []) $ free1 ! $ free0 ! $ keep ! (0 ∷ 1 ∷ 2 ∷ 3 ∷ []) $
              by ! (leaves S.row inputs O of of₁ 𝓛 κs qs x (k, a) r v ys is-r is-ys len is room)

          -- the turn at which none is left
          stops : (t : ℕ) (ys : List X) (z : State) → Inv t ys [] z → Seq (Go {0}) 𝓛 (Parts ys [] z ++ Frame) (Round t)
          unfolding after_turn
          stops t ys z inv =
              let all_done : length ys ≡ m = sym (add-zero (length ys)) ∙ inv.1.0 in
              let last : ran ≡ (0, (m, (ys ++ [], z))) =
              inv.1.1.0 ∙ along-end ys 0 [] z ∙ ap (λ (j : ℕ). (0, (j, (ys ++ [], z)))) all_done in
              assigns ! (bin ! (load ! (to 4) (look ! 1 refl)) (load ! (to' 0) (look ! 30 refl)) tt) (to' 1)
              (init ! 28 refl (tt, tt)) $
              rewrite ! 28 (λ (t : Bool). ‵ (fat full_share ty_bool lb 0 (vbool t)))
              (le-ltb (length ys) m (le_of_eq (sym all_done))) refl $
              leaves_loop ! (load ! (to' 1) (look ! 28 refl)) $
              exec ! 𝓣.C 𝓣.Λ E (end open-key turn-key done-key) (at_ret E Post) $
              assigns ! (of_opd ! (load ! (from ! (fld ! refl (stop !))) (look_in ! 48 (sub ! 1 refl (whole !))))) (to' 9)
              (init ! 12 refl (tt, record { fits = room.0 })) $
              move ! (3 ∷ []) $ vacates A₁ 𝓛 _ ld $ move ! (4 ∷ []) $ vacates A₂ 𝓛 _ lf $
              hands 0 m z.0 (refl, lit< tt) (refl, room.0) inv.1.1.1
              (λ _. and_then ! (lit ! tt)
              (and_then ! (opd-at ! (at' 9) (look ! 13 refl)) (and_then ! (opd-at ! (at 3) (look ! 5 refl)) (no_more !)))) (λ v is.
              land ! (from ! (stop !)) (init ! 50 refl (O.typed 𝓛 (fin 0 m z.0) _ is)) $
              forget ! 12 refl $ forget ! 3 refl $ forget ! 4 refl $ forget ! 28 refl $ forget ! 30 refl $
              move ! (2 ∷ 1 ∷ 0 ∷ 4 ∷ 3 ∷ []) $
              ends v (fin 0 m z.0) (ys ++ []) (answered 0 m (ys ++ []) z last) (left 0 m (ys ++ []) z last)
              (length-append ys [] ∙ inv.1.0) is refl)

          -- a turn that serves the element e, or refuses it
          one :
              (t : ℕ) (ys : List X) (e : X) (rest : List X) (z : State) → Inv t ys (e ∷ rest) z →
              Seq (Go {0}) 𝓛 (Parts ys (e ∷ rest) z ++ Frame) (Round t)
          unfolding after_turn
          one t ys e rest z inv =
              assigns ! (bin ! (load ! (to 4) (look ! 1 refl)) (load ! (to' 0) (look ! 30 refl)) tt) (to' 1)
              (init ! 28 refl (tt, tt)) $
              rewrite ! 28 (λ (t : Bool). ‵ (fat full_share ty_bool lb 0 (vbool t))) (lt-ltb (length ys) m small) refl $
              stays ! (load ! (to' 1) (look ! 28 refl)) $
              -- the element is copied out, and g is called
              assigns ! (addr ! (to 0)) (to' 2) (init ! 26 refl (tt, tt)) $
              assigns ! (addr ! (to 1)) (to' 3) (init ! 24 refl (tt, tt)) $
              assigns ! (bin ! (load ! (to 4) (look ! 1 refl)) (lit ! little) scaled) (to' 4) (init ! 22 refl (tt, scaled)) $
              assigns ! (bin ! (load ! (from ! (fld ! refl (stop !))) (look_in ! 48 (sub ! 0 refl (whole !))))
              (load ! (to' 4) (look ! 22 refl)) tt) (to' 5) (init ! 20 refl (tt, tt)) $
              rewrite ! 20 (λ (t : ℕ). ‵ (fat full_share ty_ptr lp 0 (vptr b t)))
              (sym (place_is (mem S.row).size o (length ys))) refl $
              elem_out ! S.row (Is S.row) (shows 𝓛 S.row) tvals S.tells full_share cur (length ys) D b o within
              (λ was. rewrite ! 0 (at_element (get_or cur (length ys) D)) S.is_mir refl $
              assigns ! (of_opd ! (load ! (finds_at ! (at' 5) (hop ! (look ! 22 refl) (stop !))) (look_raw ! 0 refl))) (to' 6)
              (init ! 20 refl (S.typed 𝓛 (get_or cur (length ys) D) _ was)) $
              rewrite ! 20 (λ (t : X). ‵ (fat full_share S.mir lc 0 (S.val t))) (get_or-append_seam ys e rest D) refl $
              move ! (8 ∷ []) $ use1 𝓛 (others ⊛ others) (twice 𝓛 κs.1 ks a') $ split ! $ move ! (1 ∷ []) $
              owned ! Q.row (Is Q.row) (Q.makes 𝓛) z.0 _ inv.1.1.1 $ fjoin ! $
              owned ! S.row (Is S.row) (S.makes 𝓛) e _
              (subst (λ (t : X). Is S.row t (tvals t)) (get_or-append_seam ys e rest D) was) $
              fjoin ! $ move ! (7 ∷ 8 ∷ 9 ∷ 0 ∷ []) $
              calls-lent A₁.row A₂.row serving_one T.row tu tu₁ tu₂ 𝓛 κs.1 qs.1 z.1.0 z.1.1
              (e, (z.0, a')) ld lf fm turn-key turn-known
              (λ _ _ _. and_then ! (opd-at ! (at' 2) (look ! 28 refl)) (and_then ! (opd-at ! (at' 3) (look ! 26 refl))
              (and_then ! (opd-at ! (at' 6) (look ! 20 refl)) (and_then ! (opd-at ! (at 3) (look ! 8 refl))
              (opds_all ! 12 3 τs bs refl (machine-down κs ks a) ty (spots_fourth _ _ _ τs bs F (no_local 𝓤 H))))))) (λ v is.
              -- [d; f; the tokens; what the others own; the element; what it owns; the other elements; i; q; the open borrow; ..]
              land ! (to 5) (init ! 40 refl (T.typed 𝓛 (out e z) _ is)) $
              rewrite ! 40 (λ (u : Val). ‵ (fat full_share TyT lt' 0 u)) (ap only (T.tells (out e z) _ is)) refl $
              -- is it refused?
              assigns !
              (bin ! (load ! (finds_at ! (at 5) (fld ! refl (stop !))) (look_in ! 40 (sub ! 0 refl (whole !)))) (lit ! tt) tt)
              (to' 1) (store ! 30 refl (tt, tt)) $
              cases (step e z).0
              -- it is served: the element and the small state are stored, and the next turn begins
              (λ served.
              rewrite ! 30 (λ (t : Bool). ‵ (fat full_share ty_bool lb 0 (vbool t))) (is_zero (step e z).0 served) refl $
              goes_on ! (load ! (to' 1) (look ! 30 refl)) $
              assigns ! (of_opd ! (load ! (finds_at ! (at 5) (fld ! refl (stop !))) (look_in ! 40 (sub ! 1 refl (whole !)))))
              (to' 7) (init ! 18 refl (S.typed 𝓛 (step e z).1.0 _ (T.parts (out e z) _ is).1.0)) $
              assigns ! (bin ! (load ! (to 4) (look ! 7 refl)) (lit ! little) scaled) (to' 4) (store ! 24 refl (tt, scaled)) $
              assigns ! (bin ! (load ! (from ! (fld ! refl (stop !))) (look_in ! 50 (sub ! 0 refl (whole !))))
              (load ! (to' 4) (look ! 24 refl)) tt) (to' 8) (init ! 16 refl (tt, tt)) $
              rewrite ! 16 (λ (t : ℕ). ‵ (fat full_share ty_ptr lv 0 (vptr b t)))
              (sym (place_is (mem S.row).size o (length ys))) refl $
              assigns ! (of_opd ! (load ! (to' 7) (look ! 18 refl)))
              (finds_at ! (at' 8) (hop ! (look ! 16 refl) (stop !)))
              (store_raw ! 4 refl (S.typed 𝓛 (step e z).1.0 _ (T.parts (out e z) _ is).1.0)) $
              assigns ! (of_opd ! (load ! (finds_at ! (at 5) (fld ! refl (stop !))) (look_in ! 40 (sub ! 2 refl (whole !)))))
              (to 3) (store ! 8 refl (Q.typed 𝓛 (next e z).0 _ (T.parts (out e z) _ is).1.1)) $
              rewrite ! 4 (at_element (step e z).1.0) (sym S.is_mir) refl $ move ! (5 ∷ []) $ drop ! $
              owned ! S.row (Is S.row) (S.makes 𝓛) (step e z).1.0 _ (T.parts (out e z) _ is).1.0 $
              move ! (5 ∷ 0 ∷ 6 ∷ []) $
              elem_put ! S.row full_share cur (length ys) (step e z).1.0 (tvals (step e z).1.0) b o within $
              rewrite ! 0 (λ (l : List X). ‵ (row S.row full_share l b o))
              (set-append_seam ys e rest (step e z).1.0 ∙ sym (append_snoc ys (step e z).1.0 rest)) refl $
              assigns_last ! (bin ! (load ! (to 4) (look ! 5 refl)) (lit ! tt) one_more) (to 4) (store ! 5 refl (tt, one_more)) $
              rewrite ! 5 (λ (j : ℕ). ‵ (fat full_share word li 0 (vint w64 j)))
              (sym (length-append ys ((step e z).1.0 ∷ []))) refl $
              forget ! 38 refl $ forget ! 28 refl $ forget ! 26 refl $ forget ! 24 refl $ forget ! 22 refl $ forget ! 20 refl $
              forget ! 18 refl $ forget ! 16 refl $ forget ! 14 refl $ move ! (0 ∷ 5 ∷ 6 ∷ 1 ∷ 2 ∷ []) $
              cut (Parts (ys ++ ((step e z).1.0 ∷ [])) rest (next e z)) (St (length rest) ∷ []) _
              (st_in (length rest) (ys ++ ((step e z).1.0 ∷ [])) rest (next e z)
              (onward served (T.parts (out e z) _ is).1.1)) $
              again ! ◌<◌ I t (length rest) less)
              -- it is refused: the element is as it was, and the function returns
              (λ j refused.
              rewrite ! 30 (λ (t : Bool). ‵ (fat full_share ty_bool lb 0 (vbool t))) (is-more (step e z).0 j refused) refl $
              goes_in ! (load ! (to' 1) (look ! 30 refl)) $
              rewrite ! 4 (at_element (get_or cur (length ys) D)) (sym S.is_mir) refl $ move ! (4 ∷ 5 ∷ 6 ∷ []) $
              elem_back ! S.row full_share cur (length ys) D (tvals (get_or cur (length ys) D)) b o within $ move ! (1 ∷ []) $
              vacates A₁ 𝓛 _ ld $ move ! (2 ∷ []) $ vacates A₂ 𝓛 _ lf $
              hands (step e z).0 (length ys) z.0 (T.parts (out e z) _ is).0 (refl, lt_trans small room.0) inv.1.1.1
              (λ _. and_then ! (load ! (finds_at ! (at 5) (fld ! refl (stop !))) (look_in ! 39 (sub ! 0 refl (whole !))))
              (and_then ! (opd-at ! (at 4) (look ! 6 refl)) (and_then ! (opd-at ! (at 3) (look ! 7 refl)) (no_more !)))) (λ v is.
              land ! (from ! (stop !)) (init ! 50 refl (O.typed 𝓛 (fin (step e z).0 (length ys) z.0) _ is)) $
              forget ! 38 refl $ forget ! 28 refl $ forget ! 26 refl $ forget ! 24 refl $ forget ! 22 refl $ forget ! 20 refl $
              forget ! 18 refl $ forget ! 5 refl $ forget ! 6 refl $ forget ! 30 refl $ move ! (2 ∷ 1 ∷ 0 ∷ 6 ∷ 5 ∷ []) $
              ends v (fin (step e z).0 (length ys) z.0) cur (answered (step e z).0 (length ys) cur z (halted j refused))
              (left (step e z).0 (length ys) cur z (halted j refused)) (length-append ys (e ∷ rest) ∙ inv.1.0) is refl))))
            where
              cur : List X
              cur = ys ++ (e ∷ rest)

              at_element : X → List Ty → Item 𝓤
              at_element t σs = ‵ (cell_at full_share σs (tvals t) b (place_of (mem S.row).size o (length ys)))

              small : length ys < m
              small = let total : length ys + suc (length rest) ≡ m = inv.1.0 in omega arith

              within : length ys < length (ys ++ (e ∷ rest))
              within = subst (λ (j : ℕ). length ys < j) (sym (length-append ys (e ∷ rest) ∙ inv.1.0)) small

              scaled : Fits w64 (length ys * (mem S.row).size)
              scaled = scaled_Fits (length ys) m (mem S.row).size small room.1

              one_more : Fits w64 (length ys + 1)
              one_more = next_fits (length ys) m small room.0

              less : length rest < t
              less = subst (λ (j : ℕ). length rest < j) inv.0 (lt-suc_self (length rest))

              halted : (j : ℕ) → (step e z).0 ≡ suc j → ran ≡ ((step e z).0, (length ys, (cur, z)))
              halted j refused =
                  inv.1.1.0 ∙ ap (along ys) (refusing step e rest z j refused) ∙ along-end ys (step e z).0 (e ∷ rest) z

              onward :
                  (step e z).0 ≡ 0 → Is Q.row (next e z).0 (Q.val (next e z).0 ∷ []) →
                  Inv (length rest) (ys ++ ((step e z).1.0 ∷ [])) rest (next e z)
              onward served is-q =
                  let y : X = (step e z).1.0 in
                  let longer : length (ys ++ (y ∷ [])) ≡ length ys + 1 = length-append ys (y ∷ []) in
                  let total : length ys + suc (length rest) ≡ m = inv.1.0 in
                  let w : Ran X State = serves step rest (next e z) in
                  let ahead : ran ≡ along (ys ++ (y ∷ [])) w =
                  inv.1.1.0 ∙ ap (along ys) (serving step e rest z served) ∙ sym (along_snoc ys y w) in
                  (refl, (omega arith, (ahead, is-q)))

          turns : (t : ℕ) → Seq (Go {0}) 𝓛 (I t) (Round t)
          turns t =
              pick ! (λ j. learn ! (λ inv.
              cut (parts j.0 j.1.0 j.1.1 ∷ []) (Parts j.0 j.1.0 j.1.1) _ (id⊢ 𝓤 _) $
              at-list t j.0 j.1.0 j.1.1 inv))
            where
              at-list : (t : ℕ) (ys zs : List X) (z : State) → Inv t ys zs z → Seq (Go {0}) 𝓛 (Parts ys zs z ++ Frame) (Round t)
              at-list t ys [] z inv = stops t ys z inv
              at-list t ys (e ∷ rest) z inv = one t ys e rest z inv

          -- the body: opening, and the loop
          body :
              Seq (Go {0}) 𝓛 (Idle xs (‵ (froom O.mir l₀ 0)))
              (runs 𝓣.C 𝓣.Λ E (code open-key turn-key done-key) (at_ret E Post))
          body =
              assigns ! (i₁.evals 𝓛 _ _) (to 0) (init ! 1 refl (A₁.typed 𝓛 i₁.start _ i₁.is)) $
              assigns ! (i₂.evals 𝓛 _ _) (to 1) (init ! 2 refl (A₂.typed 𝓛 i₂.start _ i₂.is)) $
              assigns ! (addr ! (to 0)) (to 6) (init ! 36 refl (tt, tt)) $
              assigns ! (addr ! (to 1)) (to 7) (init ! 34 refl (tt, tt)) $
              move ! (2 ∷ []) $ use1 𝓛 (‵ ((mem A₂.row).own_at i₂.start lf 0)) (lies A₂ 𝓛 i₂.start lf 0 i₂.is) $
              move ! (2 ∷ []) $ use1 𝓛 (‵ ((mem A₁.row).own_at i₁.start ld 0)) (lies A₁ 𝓛 i₁.start ld 0 i₁.is) $
              move ! (6 ∷ []) $ use1 𝓛 (others ⊛ others) (twice 𝓛 κs.1 ks a') $ split ! $ move ! (1 ∷ []) $
              owned ! K.row (Is K.row) (K.makes 𝓛) k _ is-k $ fjoin ! $ move ! (2 ∷ 3 ∷ 7 ∷ 0 ∷ []) $
              calls-lent A₁.row A₂.row opening B.row op op₁ op₂ 𝓛 κs.1 qs.1 i₁.start i₂.start
              (k, a') ld lf fm open-key open-known
              (λ _ _ _. and_then ! (opd-at ! (at 6) (look ! 36 refl)) (and_then ! (opd-at ! (at 7) (look ! 34 refl))
              (and_then ! (load ! (from ! (stop !)) (look ! 46 refl))
              (opds_all ! 10 3 τs bs refl (machine-down κs ks a) ty (spots_fourth _ _ _ τs bs F (no_local 𝓤 H)))))) (λ v is.
              -- [d; f; the tokens; what the others own; the elements; room for q; room for i; the open borrow; ..]
              land ! (to 2) (init ! 42 refl (B.typed 𝓛 opened _ is)) $
              rewrite ! 42 (λ (u : Val). ‵ (fat full_share TyB lg 0 u)) (ap only (B.tells opened _ is)) refl $
              assigns !
              (bin ! (load ! (finds_at ! (at 2) (fld ! refl (stop !))) (look_in ! 42 (sub ! 0 refl (whole !)))) (lit ! tt) tt)
              (to 8) (init ! 32 refl (tt, tt)) $
              cases (B.fst opened)
              -- it is opened: the loop runs from the state that opening gave
              (λ fine. rewrite ! 32 (λ (t : Bool). ‵ (fat full_share ty_bool lh 0 (vbool t))) (is_zero (B.fst opened) fine) refl $
              goes_on ! (load ! (to 8) (look ! 32 refl)) $
              assigns ! (of_opd ! (load ! (finds_at ! (at 2) (fld ! refl (stop !))) (look_in ! 42 (sub ! 1 refl (whole !)))))
              (to 3) (init ! 5 refl (Q.typed 𝓛 (B.snd opened) _ (B.parts opened _ is).1)) $
              assigns ! (of_opd ! (lit ! tt)) (to 4) (init ! 6 refl (tt, record { fits = lit< tt })) $
              assigns ! (of_opd ! (load ! (from ! (fld ! refl (stop !))) (look_in ! 48 (sub ! 1 refl (whole !))))) (to' 0)
              (init ! 30 refl (tt, record { fits = room.0 })) $
              forget ! 42 refl $ forget ! 36 refl $ forget ! 34 refl $ forget ! 32 refl $ move ! (4 ∷ 6 ∷ 5 ∷ 0 ∷ 1 ∷ []) $
              cut (Parts [] xs z₁) (St m ∷ []) _
              (st_in m [] xs z₁ (refl, (zero-add m, (begun step first_state xs fine, (B.parts opened _ is).1)))) $
              first ! $ blocks ! $ loops ! 𝓣 ◌<◌ lt-wf_rel.wf I turns m)
              -- opening is refused: nothing is served
              (λ j refused.
              rewrite ! 32 (λ (t : Bool). ‵ (fat full_share ty_bool lh 0 (vbool t))) (is-more (B.fst opened) j refused) refl $
              goes_in ! (load ! (to 8) (look ! 32 refl)) $
              move ! (11 ∷ []) $ sets_aside ! apart Q.mir bx (Q.val (B.snd opened)) (# 9) (place (# 2) (field 1 ∷ []))
              (Q.typed 𝓛 (B.snd opened) _ (B.parts opened _ is).1) spots
              (λ _ _ _. load ! (finds_at ! (at 2) (fld ! refl (stop !))) (look_in ! 44 (sub ! 1 refl (whole !)))) $
              move ! (1 ∷ []) $ vacates A₁ 𝓛 _ ld $ move ! (2 ∷ []) $ vacates A₂ 𝓛 _ lf $
              -- [f; d; the state of opened; the tokens; what the others own; the elements; room for q; room for i; the open borrow; ..]
              hands (B.fst opened) 0 (B.snd opened) (B.parts opened _ is).0 (refl, lit< tt) (B.parts opened _ is).1
              (λ _. and_then ! (load ! (finds_at ! (at 2) (fld ! refl (stop !))) (look_in ! 43 (sub ! 0 refl (whole !))))
              (and_then ! (lit ! tt)
              (reads_aside ! apart 3 (# 9) Q.mir bx (Q.val (B.snd opened)) (place (# 2) (field 1 ∷ [])) refl
              (Q.typed 𝓛 (B.snd opened) _ (B.parts opened _ is).1) spots
              (and_then ! (load ! (finds_at ! (at 2) (fld ! refl (stop !))) (look_in ! 43 (sub ! 1 refl (whole !)))) (no_more !)))))
              (λ v is. land ! (from ! (stop !)) (init ! 50 refl (O.typed 𝓛 (fin (B.fst opened) 0 (B.snd opened)) _ is)) $
              forget ! 42 refl $ forget ! 36 refl $ forget ! 34 refl $ forget ! 32 refl $ move ! (2 ∷ []) $
              forget-all ! spare bx (moved apart (Q.val (B.snd opened))) $
              move ! (5 ∷ 2 ∷ 1 ∷ 6 ∷ 7 ∷ 3 ∷ 4 ∷ 8 ∷ 9 ∷ 10 ∷ 11 ∷ 0 ∷ []) $
              ends v (fin (B.fst opened) 0 (B.snd opened)) xs
              (answered (B.fst opened) 0 xs z₁ (unopened step first_state xs j refused))
              (left (B.fst opened) 0 xs z₁ (unopened step first_state xs j refused)) refl is refl)))

        walk :
            ent 𝓤 (⋆ 𝓛 (Entry S.row inputs O of of₁ 𝓛 κs qs x (k, a)))
            (WpFn 𝓤 H 𝓣.C 𝓣.Λ (turns_fn open-key turn-key done-key) (sv ∷ K.val k ∷ vs) Post)
        walk =
            qed 𝓛 (Entry S.row inputs O of of₁ 𝓛 κs qs x (k, a)) ∵
            split ! $ split ! $ move ! (2 ∷ []) $ fsplit ! $ fsplit ! $ drop ! $ fsplit ! $ move ! (2 ∷ []) $ fsplit ! $ drop ! $
            use1 𝓛 others (owned-down κs 𝓛 ks a) $ keep ! (1 ∷ 2 ∷ 3 ∷ 4 ∷ 0 ∷ []) $
            -- [obs; the borrow; its token; the tokens; what the others own]
            enter ! 𝓣.C 𝓣.Λ (turns_fn open-key turn-key done-key) (sv ∷ K.val k ∷ vs) _ $
            alloc1 ! (λ l₀. alloc1 ! (λ l₁. alloc1 ! (λ l₂. alloc_all ! τs (λ bs.
            alloc1 ! (λ ld. alloc1 ! (λ lf. alloc1 ! (λ lg. alloc1 ! (λ lq. alloc1 ! (λ li. alloc1 ! (λ lt'. alloc1 ! (λ lx.
            alloc1 ! (λ ly. alloc1 ! (λ lh. alloc_all ! spare (λ bx. alloc1 ! (λ ln. alloc1 ! (λ lb. alloc1 ! (λ lx'. alloc1 ! (λ ly'. alloc1 ! (λ lw.
            alloc1 ! (λ lp. alloc1 ! (λ lc. alloc1 ! (λ le. alloc1 ! (λ lv. alloc1 ! (λ ll. alloc0 ! $
            params1 ! $ pass1 ! (init ! 42 refl (tt, (tt, (record { fits = room.0 }, tt)))) $
            pass1 ! (init ! 40 refl (K.typed 𝓛 k _ is-k)) $
            move ! (39 ∷ []) $
            pass_all ! τs bs vs (F l₀ l₁ l₂ bs ld lf lg lq li lt' lx ly lh bx ln lb lx' ly' lw lp lc le lv ll) ty $
            move ! (46 ∷ 47 ∷ 48 ∷ []) $ opens_slice ! tt S.row xs b o $
            move ! (0 ∷ 42 ∷ 40 ∷ 36 ∷ 34 ∷ 50 ∷ 51 ∷ 1 ∷ 2 ∷ 3 ∷ 4 ∷ 25 ∷ []) $
            body l₀ l₁ l₂ bs ld lf lg lq li lt' lx ly lh bx ln lb lx' ly' lw lp lc le lv ll))))))))))))))))))))))))

    meets :
        {M : Type 1} {𝓤 : Ura M} (𝓛 : Logic 𝓤) (𝓣 : Tables 𝓤 𝓛.H) (open-key turn-key done-key : Callee) →
        Triple 𝓤 (𝓣.C open-key) (Open 𝓛) → Triple 𝓤 (𝓣.C turn-key) (One 𝓛) → Triple 𝓤 (𝓣.C done-key) (Done 𝓛) →
        Triple 𝓤 (WpFn 𝓤 𝓛.H 𝓣.C 𝓣.Λ (turns_fn open-key turn-key done-key)) (All 𝓛)
    meets 𝓛 𝓣 open-key turn-key done-key open-known turn-known done-known =
        stays_meets S.row inputs O of of₁ 𝓛 𝓣 (turns_fn open-key turn-key done-key) (λ κs qs x a room are.
        walk 𝓛 κs qs x a.0 a.1 𝓣 open-key turn-key done-key open-known turn-known done-known room are.0
        (typed-all 𝓛 κs (args (shifts ks)) a.1 are.1))

    -- env has all at the name j, and the routines r, s and u of open, g and done at the names by which they are called
    pub all-turns :
        {M : Type 1} {𝓤 : Ura M} (𝓛 : Logic 𝓤) (𝓜 : Model 𝓤 𝓛.H) (𝓡 : Running 𝓤 𝓛.H 𝓜) (env : Routines)
        (j open-key turn-key done-key : Callee) (r s u : Routine) → env open-key ≡ r → env turn-key ≡ s → env done-key ≡ u →
        Closed 𝓤 𝓛.H (tables 𝓤 𝓛.H 𝓜 𝓡 env).C (tables 𝓤 𝓛.H 𝓜 𝓡 env).Λ j (turns_fn open-key turn-key done-key) →
        Triple 𝓤 (𝓡.run r) (Open 𝓛) → Triple 𝓤 (𝓡.run s) (One 𝓛) → Triple 𝓤 (𝓡.run u) (Done 𝓛) →
        Triple 𝓤 (𝓡.run (env j)) (All 𝓛)
    unfolding tables_of
    all-turns {𝓤 = 𝓤} 𝓛 𝓜 𝓡 env j open-key turn-key done-key r s u opens turns dones closed open-met turn-met done-met =
        entered 𝓤 𝓛.H (All 𝓛) (tables 𝓤 𝓛.H 𝓜 𝓡 env).C (tables 𝓤 𝓛.H 𝓜 𝓡 env).Λ j (turns_fn open-key turn-key done-key) closed
        (meets 𝓛 (tables_of 𝓤 𝓛.H 𝓜 (tables 𝓤 𝓛.H 𝓜 𝓡 env)) open-key turn-key done-key
        (cited 𝓤 𝓛.H (Open 𝓛) 𝓜 𝓡 env open-key r opens open-met)
        (cited 𝓤 𝓛.H (One 𝓛) 𝓜 𝓡 env turn-key s turns turn-met)
        (cited 𝓤 𝓛.H (Done 𝓛) 𝓜 𝓡 env done-key u dones done-met))
