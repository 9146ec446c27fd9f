-- A pass over a slice of structs that reads each element and changes nothing:
--     fn all(ts: &[S], ks ..) -> Q { let mut q = start; for i in 0..ts.len() { q = g(q, ts[i], ks ..); } q }
-- where g is `fn g(q: Q, t: S, ks ..) -> Q`, and start is made of constants. If g returns `of κs q t a`, then all returns the
-- `pass` of it (`specs/Fold.antt`). Neither has a `requires`.
-- When the loop has read the elements ys and those of zs are left, the pass over zs from the present state gives what the pass over
-- all gives. For each element the walk looks into the shared borrow and shuts it again.
--     One, All        the contracts of g and of all
--     pass_fn key      the code of all, where g is called by the name key
--     passes          the theorem, as the proof of such a function cites it
-- The types are any of `Data.antt`, the parameters ks any kinds of `Shifts.antt`. In the comments that list the context, `the
-- others` are these parameters, and `…` is the right to free the local named before it.
-- Assumes nothing.
use mathlib.Core.Path.{◌≡◌, refl, ap, sym, subst, ◌∙◌}
use Prim.Native.Nat.{ℕ, suc, ◌+◌, ◌*◌, ◌<◌, ◌^◌}
use native.Mathlib.Nat.{lt-suc_self, le_of_eq, add-zero}
use native.Mathlib.Omega.{arith}
use mathlib.Core.Bool.{Bool}
use mathlib.Core.List.{List, [], ◌∷◌, ◌++◌}
use lib.Dec.{T as Holds, ltb, lit<}
use lib.ListN.{length, get_or, length-append}
use lib.Seq.{append_snoc, get_or-append_seam}
use lib.WfN.{lt-wf_rel}
use seplogic.Ra.Ura.{Ura}
use base.Fraction.{full_share}
use mir.Syntax.{Ty, Callee, Fn, Body as Code, named, ty_ref, ty_int, ty_bool, ty_ptr, w64, imm, local, value_local, place, deref, field}
use mir.Syntax.{copy, int, op2, lt, mul, add, offset, unsigned, rv_opd, skip, seq, assign, block, loop, cond, exit, call, return}
use mir.Val.{Val, Fits, vbool, vint, vptr}
use base.Logic.{SProp, ent, emp}
use base.Fml.{Share, fat, froom, fdies, flft, fhide}
use prog.Wp.{Env, WpFn, Tables, Closed, Wp, Out, no_local, after_turn, after_block, after_seq, at_return}
use prog.Model.{Model}
use prog.Routine.{Routine, Env as Routines}
use types.Logic.{Logic}
use contract.Lifetimes.{Lfts, Shares, toks}
use contract.Running.{Running, tables, tables_of}
use types.Kit.{Item, ‵, raw, some, given, ◌⊛◌, ⋆, mean, any_q, at_ret, runs, Go, Goal, Seq, ◌$◌, ◌∵◌, !, qed, by, move, keep}
use types.Kit.{drop, use0, use1, use2, split, join, pick, learn, check, show, rewrite, fsplit, fjoin, suffices, frame, done}
use types.Run.{Finds, look, look_raw, init, store, forget, stop, hop, fld, from, load, lit, of_opd, bin, and_then, assigns}
use types.Run.{assigns_last, stays, leaves_loop, first, blocks, loops, again, Below, exec, land, returns, enter, alloc1, alloc0}
use types.Run.{params1, pass1, free1, free0}
use types.Part.{whole, sub, look_in}
use sound.WpLaws.{fm_of, WpFn-mono}
use borrow.Author.Rules.{scaled_Fits}
use borrow.Author.Tests.{lt-ltb, le-ltb}
use denote.RattleType.{Denots}
use denote.Laws.{Is, shows, Typed}
use denote.Memory.{mem, pointee, cell_at}
use denote.Ref.{Bor}
use denote.Slice.{slice_ty, slice_val, Room, elements_shared}
use denote.Index.{place as place_of, place_is, elem_out, elem_back, looks_slice, shuts_slice}
use denote.Steps.{only, owned}
use denote.Triple.Statement.{Contract, Triple}
use denote.Triple.Clauses.{Ended, Clauses}
use denote.Triple.Table.{entered, cited}
use denote.Triple.Walked.{says, walk_of, Walks, ends_at, walked, walk_Meets, has_of}
use Rattle.thin.specs.Fold.{pass}
use Rattle.thin.proofs.Data.{Data, own_val}
use Rattle.thin.proofs.Init.{Init}
use Rattle.thin.proofs.Args.{Arg, slice_arg, slots, rows, kept, dropped, tys, spell, tell, vals, machine, typed-all, lasts}
use Rattle.thin.proofs.Args.{fits, all_go, has_none, owned as held}
use Rattle.thin.proofs.Shifts.{Kind, by_value, args, shifts, down, machine-down, owned-down, twice}
use Rattle.thin.proofs.Calls.{Value, value_e, value_c, calls-value}
use Rattle.thin.proofs.Along.{next_fits}
use Rattle.thin.proofs.Locals.{Blocks, locals_of, env_of, cells, idle, copies, past, past-at, spots_third, alloc_all}
use Rattle.thin.proofs.Locals.{pass_all, forget-all, free_all, finds_at, opd-at, opds_all}

abbrev word : Ty
word = ty_int w64

-- S is the elements' type, D any value of it, and little says that its size is a number of MIR
module _ (S : Data) {Q : Data} (D : S.row.Denot) (little : Holds (ltb (mem S.row).size (2 ^ 64)))
    (start : Init Q) {n : ℕ} (ks : List (Kind n)) where
  -- the elements and the states
  abbrev X : Type 0
  X = S.row.Denot

  abbrev Z : Type 0
  Z = Q.row.Denot

  abbrev τs : List Ty
  τs = tys (args (shifts ks))

  abbrev inputs : List (Arg (suc n))
  inputs = slice_arg 0 tt S.row ∷ args (shifts ks)

  abbrev slice_t : Ty
  slice_t = slice_ty (ty_ref (named 0) imm (pointee S.row.written))

  -- the local k places after the parameters: q, i, the length, a test, the scaled index, the place that is read, what is read
  abbrev # : ℕ → ℕ
  # k = suc (suc (past τs k))

  abbrev turn : Callee → Code
  turn key =
      seq (assign (place (# 3) []) (op2 (lt unsigned) (copy (place (# 1) [])) (copy (place (# 2) []))))
      (seq (cond (copy (place (# 3) [])) skip (exit 1))
      (seq (assign (place (# 4) []) (op2 (mul unsigned) (copy (place (# 1) [])) (int w64 (mem S.row).size)))
      (seq (assign (place (# 5) []) (op2 offset (copy (place 1 (field 0 ∷ []))) (copy (place (# 4) []))))
      (seq (assign (place (# 6) []) (rv_opd (copy (place (# 5) (deref S.mir ∷ [])))))
      (seq (call key (copy (place (# 0) []) ∷ copy (place (# 6) []) ∷ copies 2 τs) (place (# 0) []))
      (assign (place (# 1) []) (op2 (add unsigned) (copy (place (# 1) [])) (int w64 1))))))))

  abbrev end : Code
  end = seq (assign (place 0 []) (rv_opd (copy (place (# 0) [])))) return

  abbrev code : Callee → Code
  code key =
      seq (assign (place (# 0) []) start.rv)
      (seq (assign (place (# 1) []) (rv_opd (int w64 0)))
      (seq (assign (place (# 2) []) (rv_opd (copy (place 1 (field 1 ∷ [])))))
      (seq (block (loop (turn key))) end)))

  abbrev pub pass_fn : Callee → Fn
  pass_fn key = record {
    lifetimes = suc n;
    outlives = [];
    ty_params = [];
    givens = 0;
    params = suc (past τs 0);
    locals =
        local Q.mir value_local ∷ local slice_t value_local ∷
        (locals_of τs ++
        (local Q.mir value_local ∷ local word value_local ∷ local word value_local ∷ local ty_bool value_local ∷
        local word value_local ∷ local ty_ptr value_local ∷ local S.mir value_local ∷ []));
    body = code key;
  }

  module _ (of : (κs : Lfts n) → Z → X → Denots (rows (args ks) κs) → Z) where
    abbrev one : (κs : Lfts n) → Denots (rows (args (by_value Q ∷ by_value S ∷ ks)) κs) → Z
    one κs a = of κs a.0 a.1.0 a.1.1

    abbrev all : (κs : Lfts (suc n)) → Denots (rows inputs κs) → Z
    all κs a = pass (λ z t. of κs.1 z t (down κs ks a.1)) start.start a.0.now

    abbrev pub One : {M : Type 1} {𝓤 : Ura M} (𝓛 : Logic 𝓤) → Contract 𝓤
    One = Value (args (by_value Q ∷ by_value S ∷ ks)) Q.row one

    abbrev pub All : {M : Type 1} {𝓤 : Ura M} (𝓛 : Logic 𝓤) → Contract 𝓤
    All = Value inputs Q.row all

    abbrev all_e : Ended
    all_e = value_e inputs Q.row

    abbrev all_c : {M : Type 1} (𝓤 : Ura M) → Clauses 𝓤 all_e
    all_c = value_c inputs Q.row all

    abbrev tvals : X → List Val
    tvals t = S.val t ∷ []

    module _ {M : Type 1} {𝓤 : Ura M} (𝓛 : Logic 𝓤) (κs : Lfts (suc n)) (qs : Shares (suc n))
        (x : Bor (List X)) (a : Denots (rows (args (shifts ks)) κs)) where
      open 𝓛 use {H}

      abbrev b : ℕ
      b = x.ref_ptr.0

      abbrev o : ℕ
      o = x.ref_ptr.1

      abbrev xs : List X
      xs = x.now

      abbrev m : ℕ
      m = length xs

      abbrev sv : Val
      sv = slice_val (b, o) m

      abbrev vs : List Val
      vs = machine κs (args (shifts ks)) a

      abbrev a' : Denots (rows (args ks) κs.1)
      a' = down κs ks a

      abbrev f : Z → X → Z
      f z t = of κs.1 z t a'

      -- the tokens of the lifetimes of g, what the other arguments own, and the shared borrow
      abbrev tokens : Item 𝓤
      tokens = raw (toks 𝓛 n κs.1 qs.1)

      abbrev others : Item 𝓤
      others = ‵ (held κs.1 (args ks) a')

      abbrev shared : Item 𝓤
      shared = ‵ (fhide (elements_shared S.row xs b o κs.0))

      -- the lifetimes, the shares of their tokens and the arguments that the contract is met at
      abbrev y : (walk_of 𝓛 all_e (dropped inputs) (all_c 𝓤)).Ghost
      y = ((κs, qs, tt, (x, a), vals κs inputs (x, a)), tt)

      abbrev Post : Val → SProp 𝓤
      Post = (walk_of 𝓛 all_e (dropped inputs) (all_c 𝓤)).post y

      exits :
          (z : Z) → z ≡ all κs (x, a) → Is Q.row z (Q.val z ∷ []) →
          ent 𝓤 (⋆ 𝓛 (‵ (flft κs.0 qs.0) ∷ tokens ∷ [])) (Post (Q.val z))
      exits z e is =
          qed 𝓛 (‵ (flft κs.0 qs.0) ∷ tokens ∷ []) ∵
          suffices ! _
          (ends_at 𝓛 all_e (dropped inputs) (all_c 𝓤) y _ z (lasts κs inputs (x, a)) (fits κs inputs (x, a))) $
          says ! e $ join ! $ frame ! $
          use0 𝓛
          (‵ (has_of κs (slots inputs) (kept inputs) (dropped inputs) (x, a) (lasts κs inputs (x, a)) (vals κs inputs (x, a))))
          (has_none 𝓛 κs inputs (x, a)) $ frame ! $ owned ! Q.row (Is Q.row) (Q.makes 𝓛) z _ is $ done !

      module _ (𝓣 : Tables 𝓤 H) (key : Callee) (known : Triple 𝓤 (𝓣.C key) (One 𝓛)) (room : Room S.row m)
          (ty : Typed τs vs) where
        module _ (l₀ l₁ : ℕ) (bs : Blocks τs) (lq li ln lb lw lp lc : ℕ) where
          abbrev F : List (Ty × ℕ)
          F = (Q.mir, lq) ∷ (word, li) ∷ (word, ln) ∷ (ty_bool, lb) ∷ (word, lw) ∷ (ty_ptr, lp) ∷ (S.mir, lc) ∷ []

          abbrev E : Env 𝓤 H
          E = (Q.mir, l₀) ∷ (slice_t, l₁) ∷ (env_of τs bs ++ F)

          at : (k : ℕ) → get_or E (# k) (no_local 𝓤 H) ≡ get_or F k (no_local 𝓤 H)
          at k = past-at τs bs F k (no_local 𝓤 H)

          to :
              {Γ : List (Item 𝓤)} (k : ℕ) →
              Finds (Go {0}) 𝓛 Γ E (place (# k) []) ((get_or F k (no_local 𝓤 H)).0, (get_or F k (no_local 𝓤 H)).1, 0)
          to k = finds_at ! (at k) (stop !)

          -- ys are read, zs are left, t of them, and the state is z
          abbrev Inv : ℕ → List X → List X → Z → Type 0
          Inv t ys zs z = (length zs ≡ t) × ((xs ≡ ys ++ zs) × ((all κs (x, a) ≡ pass f z zs) × Is Q.row z (Q.val z ∷ [])))

          abbrev parts : List X → Z → Item 𝓤
          parts ys z = ‵ (fat full_share word li 0 (vint w64 (length ys))) ⊛ ‵ (fat full_share Q.mir lq 0 (Q.val z))

          abbrev St : ℕ → Item 𝓤
          St t = some (λ (k : List X × (List X × Z)). given (Inv t k.0 k.1.0 k.1.1) (parts k.0 k.1.1))

          st_in : (t : ℕ) (ys zs : List X) (z : Z) → Inv t ys zs z → ent 𝓤 (mean 𝓛 (parts ys z)) (mean 𝓛 (St t))
          st_in t ys zs z inv =
              qed 𝓛 (parts ys z ∷ []) ∵
              show !
              (λ (k : List X × (List X × Z)). mean 𝓛 (given (Inv t k.0 k.1.0 k.1.1) (parts k.0 k.1.1)))
              (ys, (zs, z)) $ check ! inv $ done !

          -- the rest of the context: [the tokens; what the others own; the borrow's token; the borrow; the others' cells; what is
          -- read; …; the place; …; the scaled index; …; the test; …; the length; …; the right to free i; that to free q; the slice;
          -- …; room for _0; …]
          abbrev Frame : List (Item 𝓤)
          Frame =
              tokens ∷ others ∷ ‵ (flft κs.0 qs.0) ∷ shared ∷ ‵ (cells τs bs vs) ∷
              (idle S.mir lc ++ idle ty_ptr lp ++ idle word lw ++ idle ty_bool lb ++
              (‵ (fat full_share word ln 0 (vint w64 m)) ∷ ‵ (fdies word ln) ∷ ‵ (fdies word li) ∷ ‵ (fdies Q.mir lq) ∷
              ‵ (fat full_share slice_t l₁ 0 sv) ∷ ‵ (fdies slice_t l₁) ∷ ‵ (froom Q.mir l₀ 0) ∷ ‵ (fdies Q.mir l₀) ∷ []))

          abbrev I : ℕ → List (Item 𝓤)
          I t = St t ∷ Frame

          -- when the loop is left, the rest of the body runs
          abbrev Left : Out → SProp 𝓤
          Left = after_block 𝓤 H (after_seq 𝓤 H (Wp 𝓤 H 𝓣.C 𝓣.Λ E end (at_return 𝓤 H E Post)) (at_return 𝓤 H E Post))

          abbrev Round : ℕ → Goal 𝓤 H
          Round t = runs 𝓣.C 𝓣.Λ E (turn key) (any_q (after_turn 𝓤 H (Below 𝓛 ◌<◌ I t) Left))

          -- i and q, taken apart, and the rest
          abbrev Parts : List X → Z → List (Item 𝓤)
          Parts ys z = ‵ (fat full_share word li 0 (vint w64 (length ys))) ∷ ‵ (fat full_share Q.mir lq 0 (Q.val z)) ∷ Frame

          -- the turn at which none is left
          stops : (t : ℕ) (ys : List X) (z : Z) → Inv t ys [] z → Seq (Go {0}) 𝓛 (Parts ys z) (Round t)
          unfolding after_turn
          stops t ys z inv =
              let all_read : length ys ≡ m = sym (ap length inv.1.0 ∙ length-append ys [] ∙ add-zero (length ys)) in
              assigns ! (bin ! (load ! (to 1) (look ! 0 refl)) (load ! (to 2) (look ! 15 refl)) tt) (to 3)
              (init ! 13 refl (tt, tt)) $
              rewrite ! 13 (λ (t : Bool). ‵ (fat full_share ty_bool lb 0 (vbool t)))
              (le-ltb (length ys) m (le_of_eq (sym all_read))) refl $
              leaves_loop ! (load ! (to 3) (look ! 13 refl)) $ exec ! 𝓣.C 𝓣.Λ E end (at_ret E Post) $
              assigns ! (of_opd ! (load ! (to 0) (look ! 1 refl))) (from ! (stop !))
              (init ! 21 refl (Q.typed 𝓛 z _ inv.1.1.1)) $
              returns ! (look ! 21 refl) $
              forget ! 0 refl $ forget ! 1 refl $ forget ! 13 refl $ forget ! 15 refl $ forget ! 19 refl $ forget ! 21 refl $
              move ! (21 ∷ 22 ∷ []) $ free1 ! $ move ! (19 ∷ 20 ∷ []) $ free1 ! $ move ! (6 ∷ []) $
              forget-all ! τs bs vs $ free_all ! τs bs F $ move ! (1 ∷ 17 ∷ []) $ free1 ! $ move ! (0 ∷ 15 ∷ []) $ free1 ! $
              move ! (12 ∷ 13 ∷ []) $ free1 ! $ move ! (10 ∷ 11 ∷ []) $ free1 ! $ move ! (8 ∷ 9 ∷ []) $ free1 ! $
              move ! (6 ∷ 7 ∷ []) $ free1 ! $ move ! (4 ∷ 5 ∷ []) $ free1 ! $ free0 ! $ keep ! (2 ∷ 0 ∷ []) $
              by ! (exits z (sym inv.1.1.0) inv.1.1.1)

          -- a turn that reads the element e
          reads :
              (t : ℕ) (ys : List X) (e : X) (rest : List X) (z : Z) → Inv t ys (e ∷ rest) z → Seq (Go {0}) 𝓛 (Parts ys z) (Round t)
          unfolding after_turn
          reads t ys e rest z inv =
              assigns ! (bin ! (load ! (to 1) (look ! 0 refl)) (load ! (to 2) (look ! 15 refl)) tt) (to 3)
              (init ! 13 refl (tt, tt)) $
              rewrite ! 13 (λ (t : Bool). ‵ (fat full_share ty_bool lb 0 (vbool t))) (lt-ltb (length ys) m small) refl $
              stays ! (load ! (to 3) (look ! 13 refl)) $
              -- the element is read: the borrow is looked into, and shut again
              assigns ! (bin ! (load ! (to 1) (look ! 0 refl)) (lit ! little) scaled) (to 4) (init ! 11 refl (tt, scaled)) $
              assigns ! (bin ! (load ! (from ! (fld ! refl (stop !))) (look_in ! 19 (sub ! 0 refl (whole !))))
              (load ! (to 4) (look ! 11 refl)) tt) (to 5) (init ! 9 refl (tt, tt)) $
              rewrite ! 9 (λ (t : ℕ). ‵ (fat full_share ty_ptr lp 0 (vptr b t)))
              (sym (place_is (mem S.row).size o (length ys))) refl $ move ! (5 ∷ 4 ∷ []) $
              looks_slice ! tt S.row (S.shared 𝓛) xs b o (λ q'.
              elem_out ! S.row (Is S.row) (shows 𝓛 S.row) tvals S.tells q' xs (length ys) D b o small (λ was.
              rewrite ! 0 (at_element q') S.is_mir refl $
              assigns ! (of_opd ! (load ! (finds_at ! (at 5) (hop ! (look ! 12 refl) (stop !))) (look_raw ! 0 refl))) (to 6)
              (init ! 10 refl (S.typed 𝓛 (get_or xs (length ys) D) _ was)) $
              rewrite ! 0 (at_element q') (sym S.is_mir) refl $
              elem_back ! S.row q' xs (length ys) D (tvals (get_or xs (length ys) D)) b o small $
              shuts_slice ! tt S.row q' xs b o $
              rewrite ! 7 (λ (t : X). ‵ (fat full_share S.mir lc 0 (S.val t))) it refl $
              -- g is called, and the state is what it returns
              move ! (5 ∷ []) $ use1 𝓛 (others ⊛ others) (twice 𝓛 κs.1 ks a') $ split ! $ move ! (1 ∷ []) $
              owned ! S.row (Is S.row) (S.makes 𝓛) e _ (subst (λ (t : X). Is S.row t (tvals t)) it was) $ fjoin ! $
              owned ! Q.row (Is Q.row) (Q.makes 𝓛) z _ inv.1.1.1 $ fjoin ! $ move ! (6 ∷ 0 ∷ []) $
              calls-value (args (by_value Q ∷ by_value S ∷ ks)) Q.row one 𝓛 κs.1 qs.1 (z, (e, a'))
              (fm_of 𝓤 H 𝓛.laws 𝓣) key known
              (λ _. and_then ! (opd-at ! (at 0) (look ! 5 refl)) (and_then ! (opd-at ! (at 6) (look ! 7 refl))
              (opds_all ! 6 2 τs bs refl (machine-down κs ks a) ty (spots_third _ _ τs bs F (no_local 𝓤 H))))) (λ v is.
              land ! (to 0) (store ! 5 refl (Q.typed 𝓛 (f z e) _ is)) $
              rewrite ! 5 (λ (u : Val). ‵ (fat full_share Q.mir lq 0 u)) (ap only (Q.tells (f z e) _ is)) refl $
              assigns_last ! (bin ! (load ! (to 1) (look ! 4 refl)) (lit ! tt) one_more) (to 1) (store ! 4 refl (tt, one_more)) $
              rewrite ! 4 (λ (j : ℕ). ‵ (fat full_share word li 0 (vint w64 j))) (sym (length-append ys (e ∷ []))) refl $
              forget ! 7 refl $ forget ! 9 refl $ forget ! 11 refl $ forget ! 13 refl $ move ! (4 ∷ 5 ∷ []) $
              use2 𝓛 (St (length rest)) (st_in (length rest) (ys ++ (e ∷ [])) rest (f z e) (onward (own_val Q (f z e) v is))) $
              again ! ◌<◌ I t (length rest) less)))
            where
              small : length ys < m
              small =
                  let total : m ≡ length ys + suc (length rest) = ap length inv.1.0 ∙ length-append ys (e ∷ rest) in
                  omega arith

              it : get_or xs (length ys) D ≡ e
              it = ap (λ (l : List X). get_or l (length ys) D) inv.1.0 ∙ get_or-append_seam ys e rest D

              at_element : Share → List Ty → Item 𝓤
              at_element q' σs = ‵ (cell_at q' σs (tvals (get_or xs (length ys) D)) b (place_of (mem S.row).size o (length ys)))

              scaled : Fits w64 (length ys * (mem S.row).size)
              scaled = scaled_Fits (length ys) m (mem S.row).size small room.1

              one_more : Fits w64 (length ys + 1)
              one_more = next_fits (length ys) m small room.0

              less : length rest < t
              less = subst (λ (j : ℕ). length rest < j) inv.0 (lt-suc_self (length rest))

              onward : Is Q.row (f z e) (Q.val (f z e) ∷ []) → Inv (length rest) (ys ++ (e ∷ [])) rest (f z e)
              onward is = (refl, (inv.1.0 ∙ sym (append_snoc ys e rest), (inv.1.1.0, is)))

          turns : (t : ℕ) → Seq (Go {0}) 𝓛 (I t) (Round t)
          turns t = pick ! (λ k. learn ! (λ inv. split ! $ at-list t k.0 k.1.0 k.1.1 inv))
            where
              at-list : (t : ℕ) (ys zs : List X) (z : Z) → Inv t ys zs z → Seq (Go {0}) 𝓛 (Parts ys z) (Round t)
              at-list t ys [] z inv = stops t ys z inv
              at-list t ys (e ∷ rest) z inv = reads t ys e rest z inv

          -- the first state, and the loop
          body :
              Seq (Go {0}) 𝓛
              (‵ (cells τs bs vs) ∷ (idle S.mir lc ++ idle ty_ptr lp ++ idle word lw ++ idle ty_bool lb ++ idle word ln ++
              idle word li ++ idle Q.mir lq ++ (‵ (fat full_share slice_t l₁ 0 sv) ∷ ‵ (fdies slice_t l₁) ∷
              ‵ (froom Q.mir l₀ 0) ∷ ‵ (fdies Q.mir l₀) ∷ tokens ∷ others ∷ ‵ (flft κs.0 qs.0) ∷ shared ∷ [])))
              (runs 𝓣.C 𝓣.Λ E (code key) (at_ret E Post))
          body =
              assigns ! (start.evals 𝓛 _ _) (to 0) (init ! 13 refl (Q.typed 𝓛 start.start _ start.is)) $
              assigns ! (of_opd ! (lit ! tt)) (to 1) (init ! 11 refl (tt, record { fits = lit< tt })) $
              assigns ! (of_opd ! (load ! (from ! (fld ! refl (stop !))) (look_in ! 15 (sub ! 1 refl (whole !))))) (to 2)
              (init ! 9 refl (tt, record { fits = room.0 })) $
              move ! (11 ∷ 13 ∷ []) $ use2 𝓛 (St m) (st_in m [] xs start.start (refl, (refl, (refl, start.is)))) $
              move ! (0 ∷ 18 ∷ 19 ∷ 20 ∷ 21 ∷ []) $ first ! $ blocks ! $ loops ! 𝓣 ◌<◌ lt-wf_rel.wf I turns m

        walk :
            ent 𝓤 (⋆ 𝓛 (((‵ (flft κs.0 qs.0) ⊛ tokens) ⊛ ‵ (held κs inputs (x, a))) ∷ raw (emp 𝓤) ∷ []))
            (WpFn 𝓤 H 𝓣.C 𝓣.Λ (pass_fn key) (sv ∷ vs) Post)
        walk =
            qed 𝓛 (((‵ (flft κs.0 qs.0) ⊛ tokens) ⊛ ‵ (held κs inputs (x, a))) ∷ raw (emp 𝓤) ∷ []) ∵
            split ! $ split ! $ move ! (2 ∷ []) $ fsplit ! $ fsplit ! $ drop ! $ move ! (1 ∷ []) $
            use1 𝓛 others (owned-down κs 𝓛 ks a) $ keep ! (3 ∷ 0 ∷ 2 ∷ 1 ∷ []) $
            -- [the tokens; what the others own; the borrow's token; the borrow]
            enter ! 𝓣.C 𝓣.Λ (pass_fn key) (sv ∷ vs) _ $ alloc1 ! (λ l₀. alloc1 ! (λ l₁. alloc_all ! τs (λ bs.
            alloc1 ! (λ lq. alloc1 ! (λ li. alloc1 ! (λ ln. alloc1 ! (λ lb. alloc1 ! (λ lw. alloc1 ! (λ lp. alloc1 ! (λ lc.
            alloc0 ! $ params1 ! $ pass1 ! (init ! 15 refl (tt, (tt, (record { fits = room.0 }, tt)))) $ move ! (14 ∷ []) $
            pass_all ! τs bs vs (F l₀ l₁ bs lq li ln lb lw lp lc) ty $ body l₀ l₁ bs lq li ln lb lw lp lc))))))))))

    module _ {M : Type 1} {𝓤 : Ura M} (𝓛 : Logic 𝓤) (𝓣 : Tables 𝓤 𝓛.H) (key : Callee)
        (known : Triple 𝓤 (𝓣.C key) (One 𝓛)) where
      open 𝓛 use {H}

      walks : Walks 𝓛 all_e (dropped inputs) (WpFn 𝓤 H 𝓣.C 𝓣.Λ (pass_fn key)) (all_c 𝓤)
      walks =
          walked 𝓛 all_e (dropped inputs) (all_c 𝓤) (WpFn 𝓤 H 𝓣.C 𝓣.Λ (pass_fn key))
          (λ κs. spell κs inputs) (λ κs. tell κs inputs)
          (λ κs qs bounds a g are. walk 𝓛 κs qs a.0 a.1 𝓣 key known are.0.0.1
          (typed-all 𝓛 κs (args (shifts ks)) a.1 are.1))

      meets : Triple 𝓤 (WpFn 𝓤 H 𝓣.C 𝓣.Λ (pass_fn key)) (All 𝓛)
      meets =
          walk_Meets 𝓛 all_e (dropped inputs) (all_go 𝓛 inputs) (all_c 𝓤)
          (WpFn 𝓤 H 𝓣.C 𝓣.Λ (pass_fn key)) (WpFn-mono 𝓤 H 𝓛.laws 𝓣 (pass_fn key)) walks

    -- env has all at the name k, and the routine r of g at the name key
    pub passes :
        {M : Type 1} {𝓤 : Ura M} (𝓛 : Logic 𝓤) (𝓜 : Model 𝓤 𝓛.H) (𝓡 : Running 𝓤 𝓛.H 𝓜) (env : Routines)
        (k key : Callee) (r : Routine) → env key ≡ r → Closed 𝓤 𝓛.H (tables 𝓤 𝓛.H 𝓜 𝓡 env).C (tables 𝓤 𝓛.H 𝓜 𝓡 env).Λ k (pass_fn key) →
        Triple 𝓤 (𝓡.run r) (One 𝓛) → Triple 𝓤 (𝓡.run (env k)) (All 𝓛)
    unfolding tables_of
    passes {𝓤 = 𝓤} 𝓛 𝓜 𝓡 env k key r calls closed met =
        entered 𝓤 𝓛.H (All 𝓛) (tables 𝓤 𝓛.H 𝓜 𝓡 env).C (tables 𝓤 𝓛.H 𝓜 𝓡 env).Λ k (pass_fn key) closed
        (meets 𝓛 (tables_of 𝓤 𝓛.H 𝓜 (tables 𝓤 𝓛.H 𝓜 𝓡 env)) key
        (cited 𝓤 𝓛.H (One 𝓛) 𝓜 𝓡 env key r calls met))
