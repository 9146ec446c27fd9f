-- A function over a slice of structs that its caller lends: `fn g(ts: &mut [S], ps ..) -> O`.
--     Over of of₁                     its contract: where the slice holds xs, it returns `of κs xs a` and leaves `of₁ κs xs a`
--     over_e, over_c                    its signature and its clauses
--     Entry                           what a walk of it has at first
--     Stayed, leaves, stays_meets     a walk that still owns the slice when it ends: what it has to show, its last step, where the
--                                     list is zs, and that the function then meets its contract
--     Gave, given, gives_meets        likewise a walk that has passed the slice on for good, and has what says that zs is the last
--                                     list
-- Assumes nothing.
use mathlib.Core.Path.{◌≡◌, ap, sym, subst}
use Prim.Native.Nat.{ℕ, suc}
use mathlib.Core.List.{List, [], ◌∷◌}
use lib.ListN.{length}
use seplogic.Ra.Ura.{Ura}
use mir.Syntax.{Fn, named}
use mir.Val.{Val}
use base.Logic.{SProp, ent, emp}
use base.Fml.{fobs, fbor, flft}
use prog.Wp.{WpFn, Tables}
use types.Logic.{Logic}
use contract.Lifetimes.{Lfts, Shares, toks}
use contract.Monad.{fact}
use types.Kit.{Item, ‵, raw, ◌⊛◌, ⋆, ◌$◌, ◌∵◌, !, qed, move, use0, join, fjoin, suffices, frame, done}
use sound.WpLaws.{WpFn-mono}
use denote.RattleType.{RattleType, Denots, owns}
use denote.Laws.{Is, Are, Ises}
use denote.Ref.{MutBor}
use denote.Shadow.{pure_i}
use denote.Slice.{MutSlice, slice_val, mut_slice_vals, mut_slice_Tells, Room, finally, heres, coded_holeys, mut_slice_at}
use denote.Lend.{Held}
use denote.Signature.{plain, mut_slice_of}
use denote.Steps.{owned}
use denote.Exit.{yes}
use denote.Triple.Statement.{Contract, Triple}
use denote.Triple.Clauses.{Ended, Clauses, closing}
use denote.Triple.Spec.{triple_of}
use denote.Triple.Walked.{says, Stays, stay_slice, gave_slice, walk_of, ends_at, has_of, AllGo, Goes-slice, Goes-gave_slice, walked}
use denote.Triple.Walked.{walk_Meets}
use Rattle.thin.proofs.Data.{Data}
use Rattle.thin.proofs.Args.{Arg, slots, rows, kept, dropped, spell, tell, vals, machine, lasts, fits, all_go, has_none}

module _ (S : RattleType) {n : ℕ} (ps : List (Arg (suc n))) (O : Data) where
  abbrev pub over_e : Ended
  over_e = record {
    signature = record {
      lifetimes = suc n;
      outlives = [];
      params = mut_slice_of (0 ∷ []) tt (plain (λ _. S)) ∷ slots ps;
      result = plain (λ _. O.row);
    };
    kept = (yes, kept ps);
  }

  abbrev stays : Stays over_e.signature.params over_e.kept
  stays = (stay_slice (0 ∷ []) tt (plain (λ _. S)), dropped ps)

  abbrev gives : Stays over_e.signature.params over_e.kept
  gives = (gave_slice (0 ∷ []) tt (plain (λ _. S)), dropped ps)

  module _ (of : (κs : Lfts (suc n)) → List S.Denot → Denots (rows ps κs) → O.row.Denot)
      (of₁ : (κs : Lfts (suc n)) → List S.Denot → Denots (rows ps κs) → List S.Denot) where
    abbrev pub over_c : {M : Type 1} (𝓤 : Ura M) → Clauses 𝓤 over_e
    over_c 𝓤 κs a = record {
      ghost = Unit {0};
      requires = λ _. emp 𝓤;
      ensures = λ _ r e. fact 𝓤 ((r ≡ of κs a.0.now a.1) × (e.0.now ≡ of₁ κs a.0.now a.1));
    }

    abbrev pub Over : {M : Type 1} {𝓤 : Ura M} (𝓛 : Logic 𝓤) → Contract 𝓤
    Over {𝓤 = 𝓤} 𝓛 = triple_of 𝓛 over_e.signature (closing 𝓛 over_e (over_c 𝓤))

    module _ {M : Type 1} {𝓤 : Ura M} (𝓛 : Logic 𝓤) where
      open 𝓛 use {H}

      module _ (κs : Lfts (suc n)) (qs : Shares (suc n)) (x : MutBor (List S.Denot)) (a : Denots (rows ps κs)) where
        abbrev tokens : Item 𝓤
        tokens = raw (toks 𝓛 n κs.1 qs.1)

        abbrev slice_val_here : Val
        slice_val_here = slice_val x.ref_ptr (length x.now)

        -- what the walk has at first
        abbrev pub Entry : List (Item 𝓤)
        Entry =
            ((‵ (flft κs.0 qs.0) ⊛ tokens) ⊛
            ‵ (owns (MutSlice (named 0) κs.0 S ∷ rows ps κs) (x, a) (slice_val_here ∷ [], vals κs ps a))) ∷ raw (emp 𝓤) ∷ []

        -- the lifetimes, the shares of their tokens and the arguments that the contract is met at
        abbrev y : (hs : Stays over_e.signature.params over_e.kept) → (walk_of 𝓛 over_e hs (over_c 𝓤)).Ghost
        y hs = ((κs, qs, tt, (x, a), (slice_val_here ∷ [], vals κs ps a)), tt)

        abbrev Ends : Stays over_e.signature.params over_e.kept → Val → SProp 𝓤
        Ends hs = (walk_of 𝓛 over_e hs (over_c 𝓤)).post (y hs)

        abbrev pub Stayed : Val → SProp 𝓤
        Stayed = Ends stays

        abbrev pub Gave : Val → SProp 𝓤
        Gave = Ends gives

        module _ (r : O.row.Denot) (v : Val) (zs : List S.Denot) (is-r : r ≡ of κs x.now a)
            (is-zs : zs ≡ of₁ κs x.now a) (len : length zs ≡ length x.now) (is : Is O.row r (v ∷ [])) where
          abbrev had : List (Item 𝓤)
          had =
              ‵ (fobs x.ghost_name ((coded_holeys S).code (heres S zs))) ∷
              ‵ (fbor κs.0 (Held S (length zs) x.ref_ptr.0 x.ref_ptr.1 x.ghost_name)) ∷ ‵ (flft κs.0 qs.0) ∷ tokens ∷ []

          pub leaves : Room S (length x.now) → ent 𝓤 (⋆ 𝓛 had) (Stayed v)
          leaves room =
              qed 𝓛 had ∵
              suffices ! _ (ends_at 𝓛 over_e stays (over_c 𝓤) (y stays) v r (zs, lasts κs ps a) (len, fits κs ps a)) $
              says ! (is-r, is-zs) $ move ! (2 ∷ 3 ∷ []) $ join ! $ frame ! $ fjoin ! $
              pure_i ! (mut_slice_at S (record { ref_ptr = x.ref_ptr; ghost_name = x.ghost_name; now = zs }) (slice_val_here ∷ [])) (tt, (tt, tt))
              (ap (λ (i : ℕ). slice_val x.ref_ptr i ∷ []) (sym len), subst (Room S) (sym len) room) $ fjoin ! $
              use0 𝓛 (‵ (has_of κs (slots ps) (kept ps) (dropped ps) a (lasts κs ps a) (vals κs ps a))) (has_none 𝓛 κs ps a) $
              move ! (1 ∷ 0 ∷ []) $ fjoin ! $ frame ! $ owned ! O.row (Is O.row) (O.makes 𝓛) r _ is $ done !

          abbrev told : List (Item 𝓤)
          told =
              ‵ (finally S x.ghost_name zs) ∷ ‵ (fbor κs.0 (Held S (length x.now) x.ref_ptr.0 x.ref_ptr.1 x.ghost_name)) ∷
              ‵ (flft κs.0 qs.0) ∷ tokens ∷ []

          pub given : ent 𝓤 (⋆ 𝓛 told) (Gave v)
          given =
              qed 𝓛 told ∵
              suffices ! _ (ends_at 𝓛 over_e gives (over_c 𝓤) (y gives) v r (zs, lasts κs ps a) (len, fits κs ps a)) $
              says ! (is-r, is-zs) $ move ! (2 ∷ 3 ∷ []) $ join ! $ frame ! $ fjoin ! $
              use0 𝓛 (‵ (has_of κs (slots ps) (kept ps) (dropped ps) a (lasts κs ps a) (vals κs ps a))) (has_none 𝓛 κs ps a) $
              move ! (1 ∷ 0 ∷ []) $ fjoin ! $ frame ! $ owned ! O.row (Is O.row) (O.makes 𝓛) r _ is $ done !

      module _ (𝓣 : Tables 𝓤 H) (fn : Fn) where
        -- a walk of fn from what it has at first, at any arguments
        abbrev Walk : Stays over_e.signature.params over_e.kept → Type 1
        Walk hs =
            (κs : Lfts (suc n)) (qs : Shares (suc n)) (x : MutBor (List S.Denot)) (a : Denots (rows ps κs)) →
            Room S (length x.now) → Are (rows ps κs) (Ises (rows ps κs)) a (vals κs ps a) →
            ent 𝓤 (⋆ 𝓛 (Entry κs qs x a))
            (WpFn 𝓤 H 𝓣.C 𝓣.Λ fn (slice_val_here κs qs x a ∷ machine κs ps a) (Ends κs qs x a hs))

        meets :
            (hs : Stays over_e.signature.params over_e.kept) →
            AllGo 𝓛 (suc n) over_e.signature.params over_e.kept hs → Walk hs →
            Triple 𝓤 (WpFn 𝓤 H 𝓣.C 𝓣.Λ fn) (Over 𝓛)
        meets hs go walk =
            walk_Meets 𝓛 over_e hs go (over_c 𝓤) (WpFn 𝓤 H 𝓣.C 𝓣.Λ fn) (WpFn-mono 𝓤 H 𝓛.laws 𝓣 fn)
            (walked 𝓛 over_e hs (over_c 𝓤) (WpFn 𝓤 H 𝓣.C 𝓣.Λ fn) (λ κs. (mut_slice_vals, spell κs ps))
            (λ κs. (mut_slice_Tells (named 0) κs.0 S, tell κs ps))
            (λ κs qs bounds a g are. walk κs qs a.0 a.1 are.0.0.1 are.1))

        pub stays_meets : Walk stays → Triple 𝓤 (WpFn 𝓤 H 𝓣.C 𝓣.Λ fn) (Over 𝓛)
        stays_meets = meets stays (Goes-slice 𝓛 (suc n) 0 tt (plain (λ _. S)), all_go 𝓛 ps)

        pub gives_meets : Walk gives → Triple 𝓤 (WpFn 𝓤 H 𝓣.C 𝓣.Λ fn) (Over 𝓛)
        gives_meets = meets gives (Goes-gave_slice 𝓛 (suc n) 0 tt (plain (λ _. S)), all_go 𝓛 ps)
