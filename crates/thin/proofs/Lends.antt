-- The call of a function that is lent two locals of its caller, in a walk: `fn g(d: &mut A₁, f: &mut A₂, ks ..) -> R`.
--     Of                    what is computed of what d and f hold and of the other arguments
--     TwoLent of of₁ of₂    the contract of g: where d and f hold x and y, it returns `of κs x y a`, and leaves `of₁ κs x y a` and
--                           `of₂ κs x y a` in them
--     calls-lent            the rule. The locals, at the blocks ld and lf, are lent for lifetimes that are made for the call, and
--                           stand at their places again, at what g left. The operands are read with the rest of the context as it
--                           is, behind three entries. The result comes with its relation to its machine value
-- Assumes nothing.
use mathlib.Core.Path.{◌≡◌, refl, ap, sym, subst, ◌∙◌}
use Prim.Native.Nat.{ℕ, suc}
use mathlib.Core.List.{List, [], ◌∷◌}
use seplogic.Ra.Ura.{Ura}
use base.Fraction.{full_share}
use mir.Syntax.{Callee, Place, Opd as Operand, Body as Code, named, seq, call}
use mir.Val.{Val, vptr}
use base.Logic.{SProp, ent, sep, emp, guard, id⊢}
use base.Fml.{GName, flft, fres, flent}
use prog.Wp.{Env, Calls, Loops}
use types.Logic.{Logic}
use contract.Lifetimes.{Lfts, Shares, toks}
use contract.Monad.{fact}
use types.Kit.{Item, ‵, raw, some, given, later, ◌⊛◌, ⋆, Go, Seq, Post as Posts, runs, lands, ◌$◌, ◌∵◌, !, qed, cut, move}
use types.Kit.{keep, drop, use1, use3, split, join, pick, learn, check, rewrite, fsplit, fjoin, await, done}
use types.Tokens.{lft_new, lft_end}
use types.Run.{Opds}
use types.SemTy.{Body}
use sound.WpLaws.{FmC}
use denote.RattleType.{RattleType, Denots}
use denote.Laws.{Is, shows}
use denote.Memory.{mem}
use denote.Ref.{MutBor, MutRef}
use denote.Lend.{lends_ref, ref_back}
use denote.Signature.{plain, mut_ref_to}
use denote.Steps.{peeks, heard, nothing}
use denote.Exit.{yes}
use denote.Triple.Statement.{Contract, Triple}
use denote.Triple.Call.{calls_at}
use denote.Triple.Clauses.{Ended, Clauses, Lasts, closing, ensured, lasts as bound}
use denote.Triple.Spec.{triple_of}
use Rattle.thin.proofs.Args.{Arg, slots, rows, kept, vals, machine, owned}
use Rattle.thin.proofs.Shifts.{Kind, args, shifts, down, up, down-up, machine-up, owned-up}

-- the values may be written another way
opds_as :
    {M : Type 1} {𝓤 : Ura M} {𝓛 : Logic 𝓤} {Γ : List (Item 𝓤)} {E : Env 𝓤 𝓛.H} {ops : List Operand}
    {u w : Val} {us vs : List Val} → us ≡ vs → Opds (Go {0}) 𝓛 Γ E ops (u ∷ w ∷ vs) → Opds (Go {0}) 𝓛 Γ E ops (u ∷ w ∷ us)
opds_as {𝓛 = 𝓛} {Γ = Γ} {E = E} {ops = ops} {u = u} {w = w} e o =
    subst (λ (l : List Val). Opds (Go {0}) 𝓛 Γ E ops (u ∷ w ∷ l)) (sym e) o

-- a value of R, made of what d and f hold and of the other arguments
abbrev pub Of : (A₁ A₂ : RattleType) {n : ℕ} → List (Kind n) → RattleType → Type 0
Of A₁ A₂ {n} ks R = (κs : Lfts n) → A₁.Denot → A₂.Denot → Denots (rows (args ks) κs) → R.Denot

module _ (A₁ A₂ : RattleType) {n : ℕ} (ks : List (Kind n)) (R : RattleType) where
  abbrev far : List (Arg (suc (suc n)))
  far = args (shifts (shifts ks))

  abbrev two_lent_e : Ended
  two_lent_e = record {
    signature = record {
      lifetimes = suc (suc n);
      outlives = [];
      params = mut_ref_to (0 ∷ []) tt (plain (λ _. A₁)) ∷ mut_ref_to (1 ∷ []) tt (plain (λ _. A₂)) ∷ slots far;
      result = plain (λ _. R);
    };
    kept = (yes, (yes, kept far));
  }

  module _ (of : Of A₁ A₂ ks R) (of₁ : Of A₁ A₂ ks A₁) (of₂ : Of A₁ A₂ ks A₂) where
    abbrev two_lent_c : {M : Type 1} (𝓤 : Ura M) → Clauses 𝓤 two_lent_e
    two_lent_c 𝓤 κs a =
        let a' : Denots (rows (args ks) κs.1.1) = down κs.1 ks (down κs (shifts ks) a.1.1) in
        let x : A₁.Denot = a.0.now in
        let y : A₂.Denot = a.1.0.now in
        record {
          ghost = Unit {0};
          requires = λ _. emp 𝓤;
          ensures =
              λ _ r e. fact 𝓤
              ((r ≡ of κs.1.1 x y a') × ((e.0.now ≡ of₁ κs.1.1 x y a') × (e.1.0.now ≡ of₂ κs.1.1 x y a')));
        }

    abbrev pub TwoLent : {M : Type 1} {𝓤 : Ura M} (𝓛 : Logic 𝓤) → Contract 𝓤
    TwoLent {𝓤 = 𝓤} 𝓛 = triple_of 𝓛 two_lent_e.signature (closing 𝓛 two_lent_e (two_lent_c 𝓤))

    module _ {M : Type 1} {𝓤 : Ura M} (𝓛 : Logic 𝓤) (κs : Lfts n) (qs : Shares n)
        (x : A₁.Denot) (y : A₂.Denot) (a : Denots (rows (args ks) κs)) (ld lf : ℕ) where
      open 𝓛 use {H, A}

      abbrev tokens : Item 𝓤
      tokens = raw (toks 𝓛 n κs qs)

      -- the two references, for the new lifetimes ν₁ and ν₂ and under the ghost names δ₁ and δ₂
      module _ (ν₁ ν₂ : ℕ) (δ₁ δ₂ : GName) where
        abbrev κs' : Lfts (suc (suc n))
        κs' = (ν₁ ∷ [], (ν₂ ∷ [], κs))

        abbrev a'' : Denots (rows far κs')
        a'' = up κs' (shifts ks) (up κs'.1 ks a)

        abbrev same : down κs'.1 ks (down κs' (shifts ks) a'') ≡ a
        same = ap (down κs'.1 ks) (down-up κs' (shifts ks) (up κs'.1 ks a)) ∙ down-up κs'.1 ks a

        abbrev r₁ : MutBor A₁.Denot
        r₁ = record { ref_ptr = (ld, 0); ghost_name = δ₁; now = x }

        abbrev r₂ : MutBor A₂.Denot
        r₂ = record { ref_ptr = (lf, 0); ghost_name = δ₂; now = y }

        abbrev asked : (TwoLent 𝓛).Ghost
        asked = ((κs', (full_share, (full_share, qs)), tt, (r₁, (r₂, a'')), (vptr ld 0 ∷ [], (vptr lf 0 ∷ [], vals κs' far a''))), tt)

        abbrev had : List (Item 𝓤)
        had =
            ‵ ((MutRef (named 1) (ν₂ ∷ []) A₂).own_val r₂ (vptr lf 0 ∷ [])) ∷
            ‵ ((MutRef (named 0) (ν₁ ∷ []) A₁).own_val r₁ (vptr ld 0 ∷ [])) ∷ ‵ (flft (ν₂ ∷ []) full_share) ∷
            ‵ (flft (ν₁ ∷ []) full_share) ∷ tokens ∷ ‵ (owned κs (args ks) a) ∷ []

        asks : ent 𝓤 (⋆ 𝓛 had) ((TwoLent 𝓛).pre asked)
        asks =
            qed 𝓛 had ∵ move ! (5 ∷ []) $ use1 𝓛 (‵ (owned κs'.1 (args (shifts ks)) (up κs'.1 ks a)))
            (owned-up κs'.1 𝓛 ks a) $
            use1 𝓛 (‵ (owned κs' far a'')) (owned-up κs' 𝓛 (shifts ks) (up κs'.1 ks a)) $
            move ! (1 ∷ 0 ∷ []) $ fjoin ! $ move ! (1 ∷ 0 ∷ []) $ fjoin ! $ move ! (1 ∷ 3 ∷ []) $ join ! $
            move ! (2 ∷ 0 ∷ []) $ join ! $ join ! $ nothing ! $ move ! (1 ∷ 0 ∷ []) $ done !

        abbrev Said : R.Denot → SProp 𝓤
        Said r = ensured 𝓛 two_lent_e (two_lent_c 𝓤) κs' (r₁, (r₂, a'')) tt r

        abbrev Told : R.Denot → Lasts two_lent_e κs' (r₁, (r₂, a'')) → Type 0
        Told r ws =
            let a' : Denots (rows (args ks) κs) = down κs'.1 ks (down κs' (shifts ks) a'') in
            (r ≡ of κs x y a') × ((ws.0 ≡ of₁ κs x y a') × (ws.1.0 ≡ of₂ κs x y a'))

        -- the result, and what d and f hold at last
        told :
            (r : R.Denot) →
            ent 𝓤 (Said r) (guard 𝓤 (r ≡ of κs x y a)
            (sep 𝓤 (A.res δ₁ (A₁.coded.code (of₁ κs x y a))) (A.res δ₂ (A₂.coded.code (of₂ κs x y a)))))
        told r =
            qed 𝓛 (raw (Said r) ∷ []) ∵
            use1 𝓛
            (some (λ (ws : Lasts two_lent_e κs' (r₁, (r₂, a''))). ‵ (bound two_lent_e κs' (r₁, (r₂, a'')) ws) ⊛ raw (fact 𝓤 (Told r ws))))
            (id⊢ 𝓤 _) $
            pick ! (λ ws. split ! $ move ! (1 ∷ []) $ heard ! (Told r ws) (λ h. check ! (h.0 ∙ ap (of κs x y) same) $
            fsplit ! $ fsplit ! $ move ! (2 ∷ []) $ fsplit ! $ fsplit ! $
            rewrite ! 0 (λ (w : A₂.Denot). ‵ (fres δ₂ (A₂.coded.code w))) (h.1.1 ∙ ap (of₂ κs x y) same) refl $
            rewrite ! 3 (λ (w : A₁.Denot). ‵ (fres δ₁ (A₁.coded.code w))) (h.1.0 ∙ ap (of₁ κs x y) same) refl $
            keep ! (3 ∷ 0 ∷ []) $ done !))

      pub calls-lent :
          {C : Calls 𝓤 H} {Λ : Loops 𝓤 H} {E : Env 𝓤 H} {Γ : List (Item 𝓤)} {q : Posts 𝓤 H} {ops : List Operand} {to : Place}
          {rest : Code} →
          FmC 𝓤 H 𝓛.laws C → (key : Callee) → Triple 𝓤 (C key) (TwoLent 𝓛) →
          ((i j l : Item 𝓤) → Opds (Go {0}) 𝓛 (i ∷ j ∷ l ∷ Γ) E ops (vptr ld 0 ∷ vptr lf 0 ∷ machine κs (args ks) a)) →
          ((v : Val) → Is R (of κs x y a) (v ∷ []) →
          Seq (Go {0}) 𝓛 (‵ ((mem A₁).own_at (of₁ κs x y a) ld 0) ∷ ‵ ((mem A₂).own_at (of₂ κs x y a) lf 0) ∷ tokens ∷ Γ)
          (lands C Λ E to v rest q)) →
          Seq (Go {0}) 𝓛 (‵ ((mem A₁).own_at x ld 0) ∷ ‵ ((mem A₂).own_at y lf 0) ∷ tokens ∷ ‵ (owned κs (args ks) a) ∷ Γ)
          (runs C Λ E (seq (call key ops to) rest) q)
      calls-lent fm key known read k =
          lft_new ! tt (λ ν₁. lft_new ! tt (λ ν₂. move ! (2 ∷ []) $
          use1 𝓛 (later (some (λ (δ : GName).
          ‵ ((MutRef (named 0) (ν₁ ∷ []) A₁).own_val (r₁ ν₁ ν₂ δ δ) (vptr ld 0 ∷ [])) ⊛ ‵ (flent (ν₁ ∷ []) (Body (mem A₁) ld 0 δ)))))
          (lends_ref 𝓛 A₁ (named 0) (ν₁ ∷ []) x ld 0) $ await ! tt $ pick ! (λ δ₁. split ! $ move ! (4 ∷ []) $
          use1 𝓛 (later (some (λ (δ : GName).
          ‵ ((MutRef (named 1) (ν₂ ∷ []) A₂).own_val (r₂ ν₁ ν₂ δ δ) (vptr lf 0 ∷ [])) ⊛ ‵ (flent (ν₂ ∷ []) (Body (mem A₂) lf 0 δ)))))
          (lends_ref 𝓛 A₂ (named 1) (ν₂ ∷ []) y lf 0) $ await ! tt $ pick ! (λ δ₂. split ! $
          -- [f's reference; f's lender's part; d's reference; d's lender's part; ν₂; ν₁; the tokens; what the others own]
          move ! (0 ∷ 2 ∷ 4 ∷ 5 ∷ 6 ∷ 7 ∷ []) $
          cut (had ν₁ ν₂ δ₁ δ₂) (raw ((TwoLent 𝓛).pre (asked ν₁ ν₂ δ₁ δ₂)) ∷ []) _ (asks ν₁ ν₂ δ₁ δ₂) $
          calls_at ! fm (TwoLent 𝓛) known (asked ν₁ ν₂ δ₁ δ₂) (opds_as (machine-far ν₁ ν₂ δ₁ δ₂) (read _ _ _)) (λ v.
          use1 𝓛 (later (some (λ (r : R.Denot).
          ((‵ (flft (ν₁ ∷ []) full_share) ⊛ ‵ (flft (ν₂ ∷ []) full_share) ⊛ tokens) ⊛ ‵ (R.own_val r (v ∷ []))) ⊛
          raw (Said ν₁ ν₂ δ₁ δ₂ r)))) (id⊢ 𝓤 _) $ await ! tt $ pick ! (λ r. split ! $ move ! (1 ∷ []) $
          use1 𝓛
          (given (r ≡ of κs x y a) (‵ (fres δ₁ (A₁.coded.code (of₁ κs x y a))) ⊛ ‵ (fres δ₂ (A₂.coded.code (of₂ κs x y a)))))
          (told ν₁ ν₂ δ₁ δ₂ r) $ learn ! (λ e. split ! $ move ! (2 ∷ []) $ split ! $ move ! (1 ∷ []) $
          peeks ! R (Is R) (shows 𝓛 R) r (v ∷ []) (λ is. drop ! $ split ! $ move ! (1 ∷ []) $ split ! $
          -- [ν₂; the tokens; ν₁; d's last value; f's last value; f's lender's part; d's lender's part]
          lft_end ! tt $ move ! (0 ∷ 5 ∷ 4 ∷ []) $
          use3 𝓛 (later (‵ ((mem A₂).own_at (of₂ κs x y a) lf 0))) (ref_back 𝓛 A₂ (ν₂ ∷ []) δ₂ (of₂ κs x y a) lf 0) $
          await ! tt $ move ! (2 ∷ []) $ lft_end ! tt $ move ! (0 ∷ 4 ∷ 3 ∷ []) $
          use3 𝓛 (later (‵ ((mem A₁).own_at (of₁ κs x y a) ld 0))) (ref_back 𝓛 A₁ (ν₁ ∷ []) δ₁ (of₁ κs x y a) ld 0) $
          await ! tt $ k v (subst (λ (u : R.Denot). Is R u (v ∷ [])) e is)))))))))
        where
          machine-far : (ν₁ ν₂ : ℕ) (δ₁ δ₂ : GName) → machine (κs' ν₁ ν₂ δ₁ δ₂) far (a'' ν₁ ν₂ δ₁ δ₂) ≡ machine κs (args ks) a
          machine-far ν₁ ν₂ δ₁ δ₂ =
              machine-up (κs' ν₁ ν₂ δ₁ δ₂) (shifts ks) (up (κs' ν₁ ν₂ δ₁ δ₂).1 ks a) ∙ machine-up (κs' ν₁ ν₂ δ₁ δ₂).1 ks a
