-- Two functions over one slice that is lent, in a row, of which the first only reads it:
--     fn both(ts: &mut [S], ps ..) -> O { let k = f(ts); g(ts, k, ps ..) }
-- where f is `fn f(ts: &[S]) -> K` and g is `fn g(ts: &mut [S], k: K, ps ..) -> O`. If f returns `asks xs`, and g returns
-- `next κs xs (k, a)` and leaves `next₁ κs xs (k, a)`, then both does what g does at k = asks xs. None has a `requires`.
-- The walk opens the slice, lends it to f as a `&[S]` for a lifetime that is made for the call, closes it as it was, and passes it
-- on to g for good.
--     Ask, Next, Both      the contracts of f, g and both
--     both_fn f-key g-key   the code of both, where f and g are called by these names
--     in_a_row             the theorem, as the proof of such a function cites it
-- The types are any of `Data.antt`, the parameters ps any of `Args.antt`. In the comments that list the context, `the others` are
-- these parameters, and `…` is the right to free the local named before it.
-- Assumes nothing.
use mathlib.Core.Path.{◌≡◌, refl, ap}
use Prim.Native.Nat.{ℕ, suc}
use mathlib.Core.List.{List, [], ◌∷◌, ◌++◌}
use lib.ListN.{length, get_or}
use seplogic.Ra.Ura.{Ura}
use base.Fraction.{full_share}
use mir.Syntax.{Ty, Callee, Fn, Body as Code, Mutability, named, erased, ty_ref, mut, imm, local, value_local, place, deref, field}
use mir.Syntax.{copy, addr_of, aggregate, seq, assign, call, return}
use mir.Val.{Val}
use base.Logic.{SProp, ent, id⊢}
use base.Fml.{Incl-refl, ftrue, fat, froom, fdies, flft, fobs, fbor, flent}
use prog.Wp.{Env, WpFn, Tables, Closed, no_local}
use prog.Model.{Model}
use prog.Routine.{Routine, Env as Routines}
use types.Logic.{Logic}
use contract.Lifetimes.{Lfts, Shares, toks}
use contract.Monad.{fact}
use contract.Running.{Running, tables, tables_of}
use types.Kit.{Item, cut, ‵, raw, some, later, ◌⊛◌, ⋆, at_ret, runs, Go, Seq, ◌$◌, ◌∵◌, !, qed, by, move, keep, drop, use1}
use types.Kit.{use2, split, join, pick, rewrite, fsplit, fjoin, feq_i, feq_l, await, done}
use types.Tokens.{lft_new, lft_end, lent_back}
use types.Run.{Finds, look, init, forget, stop, hop, fld, from, load, addr, and_then, no_more, assigns, land, returns, enter}
use types.Run.{alloc1, alloc0, params1, pass1, free1, free0}
use types.Part.{agg, whole, sub, look_in}
use types.Share.{arr_parts}
use sound.WpLaws.{FmC, fm_of}
use denote.RattleType.{Denots}
use denote.Laws.{Is, shows, Typed}
use denote.Memory.{pointee, shares}
use denote.Ref.{Bor, MutBor}
use denote.Shadow.{pure_i}
use denote.Slice.{slice_ty, slice_val, ShrSlice, Room, heres, coded_holeys, mut_slice_at}
use denote.Lend.{Held, lends_shr_slice}
use denote.Index.{opens_slice, closes_slice}
use denote.Steps.{only, owned, peeks, heard, nothing}
use denote.Triple.Statement.{Contract, Triple}
use denote.Triple.Call.{calls_at}
use denote.Triple.Clauses.{Ended, Lasts, ensured, lasts as bound}
use denote.Triple.Table.{entered, cited}
use Rattle.thin.proofs.Data.{Data, own_val}
use Rattle.thin.proofs.Args.{Arg, plain_arg, slice_arg, rows, tys, vals, machine, typed-all, owned as held}
use Rattle.thin.proofs.Calls.{Value, calls-value}
use Rattle.thin.proofs.Over.{Over, over_e, over_c, Entry, Gave, given, gives_meets}
use Rattle.thin.proofs.Locals.{Blocks, locals_of, env_of, cells, idle, copies, past, past-at, spots_third, alloc_all}
use Rattle.thin.proofs.Locals.{pass_all, forget-all, free_all, finds_at, opd-at, opds_all}

module _ (S K O : Data) {n : ℕ} (ps : List (Arg (suc n))) where
  -- the elements
  abbrev X : Type 0
  X = S.row.Denot

  abbrev τs : List Ty
  τs = tys ps

  abbrev ref_t : Mutability → Ty
  ref_t mu = ty_ref erased mu (pointee S.row.written)

  abbrev slice_t : Ty
  slice_t = slice_ty (ty_ref (named 0) mut (pointee S.row.written))

  -- the local j places after the parameters: k, and a reference and a slice for each of the two calls
  abbrev # : ℕ → ℕ
  # j = suc (suc (past τs j))

  abbrev code : Callee → Callee → Code
  code f-key g-key =
      seq (assign (place (# 1) []) (addr_of (place 1 (field 0 ∷ deref S.mir ∷ []))))
      (seq (assign (place (# 2) []) (aggregate (copy (place (# 1) []) ∷ copy (place 1 (field 1 ∷ [])) ∷ [])))
      (seq (call f-key (copy (place (# 2) []) ∷ []) (place (# 0) []))
      (seq (assign (place (# 3) []) (addr_of (place 1 (field 0 ∷ deref S.mir ∷ []))))
      (seq (assign (place (# 4) []) (aggregate (copy (place (# 3) []) ∷ copy (place 1 (field 1 ∷ [])) ∷ [])))
      (seq (call g-key (copy (place (# 4) []) ∷ copy (place (# 0) []) ∷ copies 2 τs) (place 0 [])) return)))))

  abbrev pub both_fn : Callee → Callee → Fn
  both_fn f-key g-key = record {
    lifetimes = suc n;
    outlives = [];
    ty_params = [];
    givens = 0;
    params = suc (past τs 0);
    locals =
        local O.mir value_local ∷ local slice_t value_local ∷
        (locals_of τs ++
        (local K.mir value_local ∷ local (ref_t imm) value_local ∷ local (slice_ty (ref_t imm)) value_local ∷
        local (ref_t mut) value_local ∷ local (slice_ty (ref_t mut)) value_local ∷ []));
    body = code f-key g-key;
  }

  -- what f takes
  abbrev reading : List (Arg 1)
  reading = slice_arg 0 tt S.row ∷ []

  module _ (asks : List X → K.row.Denot)
      (next : (κs : Lfts (suc n)) → List X → Denots (rows (plain_arg K ∷ ps) κs) → O.row.Denot)
      (next₁ : (κs : Lfts (suc n)) → List X → Denots (rows (plain_arg K ∷ ps) κs) → List X) where
    abbrev pub Ask : {M : Type 1} {𝓤 : Ura M} (𝓛 : Logic 𝓤) → Contract 𝓤
    Ask = Value reading K.row (λ _ t. asks t.0.now)

    abbrev next_e : Ended
    next_e = over_e S.row (plain_arg K ∷ ps) O

    abbrev pub Next : {M : Type 1} {𝓤 : Ura M} (𝓛 : Logic 𝓤) → Contract 𝓤
    Next = Over S.row (plain_arg K ∷ ps) O next next₁

    abbrev of : (κs : Lfts (suc n)) → List X → Denots (rows ps κs) → O.row.Denot
    of κs xs a = next κs xs (asks xs, a)

    abbrev of₁ : (κs : Lfts (suc n)) → List X → Denots (rows ps κs) → List X
    of₁ κs xs a = next₁ κs xs (asks xs, a)

    abbrev pub Both : {M : Type 1} {𝓤 : Ura M} (𝓛 : Logic 𝓤) → Contract 𝓤
    Both = Over S.row ps O of of₁

    module _ {M : Type 1} {𝓤 : Ura M} (𝓛 : Logic 𝓤) (κs : Lfts (suc n)) (qs : Shares (suc n))
        (x : MutBor (List X)) (a : Denots (rows ps κs)) where
      open 𝓛 use {H}

      abbrev b : ℕ
      b = x.ref_ptr.0

      abbrev o : ℕ
      o = x.ref_ptr.1

      abbrev xs : List X
      xs = x.now

      abbrev m : ℕ
      m = length xs

      abbrev sv : Val
      sv = slice_val (b, o) m

      abbrev k : K.row.Denot
      k = asks xs

      -- the slice as f has it
      abbrev seen : Bor (List X)
      seen = record { ref_ptr = (b, o); now = xs }

      abbrev tokens : Item 𝓤
      tokens = raw (toks 𝓛 n κs.1 qs.1)

      -- the call of g: what it is asked, and what it ensures
      abbrev asked : (Next 𝓛).Ghost
      asked = ((κs, qs, tt, (x, (k, a)), (sv ∷ [], vals κs (plain_arg K ∷ ps) (k, a))), tt)

      abbrev had : List (Item 𝓤)
      had =
          ‵ (flft κs.0 qs.0) ∷ tokens ∷ ‵ (fobs x.ghost_name ((coded_holeys S.row).code (heres S.row xs))) ∷
          ‵ (fbor κs.0 (Held S.row m b o x.ghost_name)) ∷ ‵ (held κs ps a) ∷ []

      passed_on : Room S.row m → Is K.row k (K.val k ∷ []) → ent 𝓤 (⋆ 𝓛 had) ((Next 𝓛).pre asked)
      passed_on room is =
          qed 𝓛 had ∵ join ! $ move ! (1 ∷ 2 ∷ []) $ fjoin ! $
          pure_i ! (mut_slice_at S.row x (sv ∷ [])) (tt, (tt, tt)) (refl, room) $ fjoin ! $
          move ! (2 ∷ []) $ owned ! K.row (Is K.row) (K.makes 𝓛) k _ is $ fjoin ! $ move ! (1 ∷ 0 ∷ []) $ fjoin ! $
          move ! (1 ∷ 0 ∷ []) $ join ! $ nothing ! $ move ! (1 ∷ 0 ∷ []) $ done !

      abbrev Said : O.row.Denot → SProp 𝓤
      Said r = ensured 𝓛 next_e (over_c S.row (plain_arg K ∷ ps) O next next₁ 𝓤) κs (x, (k, a)) tt r

      abbrev Told : O.row.Denot → Lasts next_e κs (x, (k, a)) → Type 0
      Told r zs = (r ≡ next κs xs (k, a)) × (zs.0 ≡ next₁ κs xs (k, a))

      abbrev Post : Val → SProp 𝓤
      Post = Gave S.row ps O of of₁ 𝓛 κs qs x a

      module _ (𝓣 : Tables 𝓤 H) (f-key g-key : Callee) (f-known : Triple 𝓤 (𝓣.C f-key) (Ask 𝓛))
          (g_known : Triple 𝓤 (𝓣.C g-key) (Next 𝓛)) (room : Room S.row m) (ty : Typed τs (machine κs ps a)) where
        abbrev fm : FmC 𝓤 H 𝓛.laws 𝓣.C
        fm = fm_of 𝓤 H 𝓛.laws 𝓣

        module _ (l₀ l₁ : ℕ) (bs : Blocks τs) (lk lr ls lu lv : ℕ) where
          abbrev F : List (Ty × ℕ)
          F = (K.mir, lk) ∷ (ref_t imm, lr) ∷ (slice_ty (ref_t imm), ls) ∷ (ref_t mut, lu) ∷ (slice_ty (ref_t mut), lv) ∷ []

          abbrev E : Env 𝓤 H
          E = (O.mir, l₀) ∷ (slice_t, l₁) ∷ (env_of τs bs ++ F)

          at : (j : ℕ) → get_or E (# j) (no_local 𝓤 H) ≡ get_or F j (no_local 𝓤 H)
          at j = past-at τs bs F j (no_local 𝓤 H)

          to :
              {Γ : List (Item 𝓤)} (j : ℕ) →
              Finds (Go {0}) 𝓛 Γ E (place (# j) []) ((get_or F j (no_local 𝓤 H)).0, (get_or F j (no_local 𝓤 H)).1, 0)
          to j = finds_at ! (at j) (stop !)

          -- [the others' cells; g's slice; …; its reference; …; f's slice; …; its reference; …; k; …; _1; …; room for _0; …; obs;
          -- the borrow; its token; what the others own; their tokens]
          body :
              Seq (Go {0}) 𝓛
              (‵ (cells τs bs (machine κs ps a)) ∷
              (idle (slice_ty (ref_t mut)) lv ++ idle (ref_t mut) lu ++ idle (slice_ty (ref_t imm)) ls ++ idle (ref_t imm) lr ++
              idle K.mir lk ++ (‵ (fat full_share slice_t l₁ 0 sv) ∷ ‵ (fdies slice_t l₁) ∷ ‵ (froom O.mir l₀ 0) ∷
              ‵ (fdies O.mir l₀) ∷ ‵ (fobs x.ghost_name ((coded_holeys S.row).code (heres S.row xs))) ∷
              ‵ (fbor κs.0 (Held S.row m b o x.ghost_name)) ∷ ‵ (flft κs.0 qs.0) ∷ ‵ (held κs ps a) ∷ tokens ∷ [])))
              (runs 𝓣.C 𝓣.Λ E (code f-key g-key) (at_ret E Post))
          body =
              -- the slice is opened, lent to f as a `&[S]` for a new lifetime, and closed again
              assigns ! (addr ! (from ! (fld ! refl (hop ! (look_in ! 11 (sub ! 0 refl (whole !))) (stop !))))) (to 1)
              (init ! 7 refl (tt, tt)) $
              assigns ! (agg ! (and_then ! (load ! (to 1) (look ! 7 refl))
              (and_then ! (load ! (from ! (fld ! refl (stop !))) (look_in ! 11 (sub ! 1 refl (whole !)))) (no_more !)))) (to 2)
              (init ! 5 refl (tt, (tt, (record { fits = room.0 }, tt)))) $
              move ! (15 ∷ 16 ∷ 17 ∷ []) $ opens_slice ! tt S.row xs b o $ lft_new ! tt (λ ν. move ! (1 ∷ []) $
              feq_i ! ℕ (length xs) (length xs) refl $ fjoin ! $
              use2 𝓛 (later ((‵ ((ShrSlice (named 0) (ν ∷ []) S.row).own_val seen (sv ∷ [])) ⊛
              ‵ (flent (ν ∷ []) ((arr_parts (shares S.row) m).part full_share xs b o))) ⊛ ‵ (flft (ν ∷ []) full_share)))
              (lends_shr_slice 𝓛 S.row (named 0) (ν ∷ []) full_share xs b o room (ν ∷ []) ((S.shared 𝓛).shares full_share (ν ∷ []))
              ((ν ∷ [], full_share) ∷ []) (Incl-refl (ν ∷ [])) (Incl-refl (ν ∷ []))) $ await ! tt $ split ! $ split ! $
              -- [f's slice, lent; the lender's part; ν; the open borrow; obs; auth; the others' cells; ..; what the others own;
              -- their tokens]
              nothing ! $ move ! (1 ∷ 0 ∷ []) $ fjoin ! $ nothing ! $ move ! (3 ∷ 0 ∷ []) $
              use2 𝓛 (raw (toks 𝓛 1 (ν ∷ [], tt) (full_share, tt))) (id⊢ 𝓤 _) $
              calls-value reading K.row (λ _ t. asks t.0.now) 𝓛 (ν ∷ [], tt) (full_share, tt) (seen, tt) fm f-key f-known
              (λ _. and_then ! (opd-at ! (at 2) (look ! 10 refl)) (no_more !)) (λ v is.
              land ! (to 0) (init ! 14 refl (K.typed 𝓛 k _ is)) $
              rewrite ! 14 (λ (t : Val). ‵ (fat full_share K.mir lk 0 t)) (ap only (K.tells k _ is)) refl $
              use1 𝓛 (‵ (flft (ν ∷ []) full_share) ⊛ ‵ ftrue) (id⊢ 𝓤 _) $ split ! $ lft_end ! tt $ move ! (0 ∷ 2 ∷ []) $
              lent_back ! tt $ fsplit ! $ drop ! $ move ! (0 ∷ 2 ∷ 3 ∷ 4 ∷ []) $ closes_slice ! tt S.row xs xs refl b o $
              -- it is passed on to g for good
              -- [obs; the borrow; its token; the others' cells; ..; what the others own; their tokens]
              assigns ! (addr ! (from ! (fld ! refl (hop ! (look_in ! 15 (sub ! 0 refl (whole !))) (stop !))))) (to 3)
              (init ! 7 refl (tt, tt)) $
              assigns ! (agg ! (and_then ! (load ! (to 3) (look ! 7 refl))
              (and_then ! (load ! (from ! (fld ! refl (stop !))) (look_in ! 15 (sub ! 1 refl (whole !)))) (no_more !)))) (to 4)
              (init ! 5 refl (tt, (tt, (record { fits = room.0 }, tt)))) $
              move ! (2 ∷ 20 ∷ 0 ∷ 1 ∷ 19 ∷ []) $
              cut had (raw ((Next 𝓛).pre asked) ∷ []) _ (passed_on room (own_val K k _ is)) $
              calls_at ! fm (Next 𝓛) g_known asked
              (and_then ! (opd-at ! (at 4) (look ! 3 refl)) (and_then ! (opd-at ! (at 0) (look ! 11 refl))
              (opds_all ! 2 2 τs bs refl refl ty (spots_third _ _ τs bs F (no_local 𝓤 H))))) (λ w.
              use1 𝓛 (later (some (λ (r : O.row.Denot).
              ((‵ (flft κs.0 qs.0) ⊛ tokens) ⊛ ‵ (O.row.own_val r (w ∷ []))) ⊛ raw (Said r)))) (id⊢ 𝓤 _) $
              await ! tt $ pick ! (λ r. split ! $ move ! (1 ∷ []) $
              use1 𝓛 (some (λ (zs : Lasts next_e κs (x, (k, a))). ‵ (bound next_e κs (x, (k, a)) zs) ⊛ raw (fact 𝓤 (Told r zs))))
              (id⊢ 𝓤 _) $ pick ! (λ zs. split ! $ move ! (1 ∷ []) $ heard ! (Told r zs) (λ e.
              fsplit ! $ fsplit ! $ fsplit ! $ move ! (1 ∷ []) $ feq_l ! (λ len. move ! (2 ∷ []) $ drop ! $ move ! (2 ∷ []) $
              split ! $ move ! (1 ∷ []) $ peeks ! O.row (Is O.row) (shows 𝓛 O.row) r (w ∷ []) (λ is-r. drop ! $ split ! $
              -- [its token; their tokens; the last list; the borrow; ..; the others' cells; ..]
              land ! (from ! (stop !)) (init ! 18 refl (O.typed 𝓛 r _ is-r)) $ returns ! (look ! 18 refl) $
              forget ! 14 refl $ forget ! 12 refl $ forget ! 10 refl $ forget ! 8 refl $ forget ! 6 refl $ forget ! 16 refl $
              forget ! 18 refl $ move ! (18 ∷ 19 ∷ []) $ free1 ! $ move ! (16 ∷ 17 ∷ []) $ free1 ! $ move ! (5 ∷ []) $
              forget-all ! τs bs (machine κs ps a) $ free_all ! τs bs F $ move ! (13 ∷ 14 ∷ []) $ free1 ! $
              move ! (11 ∷ 12 ∷ []) $ free1 ! $ move ! (9 ∷ 10 ∷ []) $ free1 ! $ move ! (7 ∷ 8 ∷ []) $ free1 ! $
              move ! (5 ∷ 6 ∷ []) $ free1 ! $ free0 ! $ keep ! (2 ∷ 3 ∷ 0 ∷ 1 ∷ []) $
              by ! (given S.row ps O of of₁ 𝓛 κs qs x a r w zs.0 e.0 e.1 len is-r)))))))))

        walk :
            ent 𝓤 (⋆ 𝓛 (Entry S.row ps O of of₁ 𝓛 κs qs x a))
            (WpFn 𝓤 H 𝓣.C 𝓣.Λ (both_fn f-key g-key) (sv ∷ machine κs ps a) Post)
        walk =
            qed 𝓛 (Entry S.row ps O of of₁ 𝓛 κs qs x a) ∵
            split ! $ split ! $ move ! (2 ∷ []) $ fsplit ! $ fsplit ! $ drop ! $ fsplit ! $ keep ! (0 ∷ 1 ∷ 3 ∷ 2 ∷ 4 ∷ []) $
            -- [obs; the borrow; its token; what the others own; their tokens]
            enter ! 𝓣.C 𝓣.Λ (both_fn f-key g-key) (sv ∷ machine κs ps a) _ $
            alloc1 ! (λ l₀. alloc1 ! (λ l₁. alloc_all ! τs (λ bs.
            alloc1 ! (λ lk. alloc1 ! (λ lr. alloc1 ! (λ ls. alloc1 ! (λ lu. alloc1 ! (λ lv. alloc0 ! $
            params1 ! $ pass1 ! (init ! 11 refl (tt, (tt, (record { fits = room.0 }, tt)))) $ move ! (10 ∷ []) $
            pass_all ! τs bs (machine κs ps a) (F l₀ l₁ bs lk lr ls lu lv) ty $ body l₀ l₁ bs lk lr ls lu lv))))))))

    meets :
        {M : Type 1} {𝓤 : Ura M} (𝓛 : Logic 𝓤) (𝓣 : Tables 𝓤 𝓛.H) (f-key g-key : Callee) →
        Triple 𝓤 (𝓣.C f-key) (Ask 𝓛) → Triple 𝓤 (𝓣.C g-key) (Next 𝓛) →
        Triple 𝓤 (WpFn 𝓤 𝓛.H 𝓣.C 𝓣.Λ (both_fn f-key g-key)) (Both 𝓛)
    meets 𝓛 𝓣 f-key g-key f-known g_known =
        gives_meets S.row ps O of of₁ 𝓛 𝓣 (both_fn f-key g-key) (λ κs qs x a room are.
        walk 𝓛 κs qs x a 𝓣 f-key g-key f-known g_known room (typed-all 𝓛 κs ps a are))

    -- env has both at the name j, and the routines r and s of f and g at the names f-key and g-key
    pub in_a_row :
        {M : Type 1} {𝓤 : Ura M} (𝓛 : Logic 𝓤) (𝓜 : Model 𝓤 𝓛.H) (𝓡 : Running 𝓤 𝓛.H 𝓜) (env : Routines)
        (j f-key g-key : Callee) (r s : Routine) → env f-key ≡ r → env g-key ≡ s →
        Closed 𝓤 𝓛.H (tables 𝓤 𝓛.H 𝓜 𝓡 env).C (tables 𝓤 𝓛.H 𝓜 𝓡 env).Λ j (both_fn f-key g-key) →
        Triple 𝓤 (𝓡.run r) (Ask 𝓛) → Triple 𝓤 (𝓡.run s) (Next 𝓛) → Triple 𝓤 (𝓡.run (env j)) (Both 𝓛)
    unfolding tables_of
    in_a_row {𝓤 = 𝓤} 𝓛 𝓜 𝓡 env j f-key g-key r s calls-f calls-g closed f-met g-met =
        entered 𝓤 𝓛.H (Both 𝓛) (tables 𝓤 𝓛.H 𝓜 𝓡 env).C (tables 𝓤 𝓛.H 𝓜 𝓡 env).Λ j (both_fn f-key g-key) closed
        (meets 𝓛 (tables_of 𝓤 𝓛.H 𝓜 (tables 𝓤 𝓛.H 𝓜 𝓡 env)) f-key g-key
        (cited 𝓤 𝓛.H (Ask 𝓛) 𝓜 𝓡 env f-key r calls-f f-met) (cited 𝓤 𝓛.H (Next 𝓛) 𝓜 𝓡 env g-key s calls-g g-met))
