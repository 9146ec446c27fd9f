-- The call of a function by value in a walk, which knows only that the function meets its contract.
--     Value ps R of       the contract: the function returns `of κs a` at the arguments a
--     value_e, value_c      its signature and its clauses
--     calls-value         the rule. The tokens and what the arguments own stand first, and the tokens stay. The operands are read
--                         with the rest of the context as it is, behind one entry. The result comes with its relation to its
--                         machine value
-- Assumes nothing.
use mathlib.Core.Path.{◌≡◌, subst}
use Prim.Native.Nat.{ℕ}
use mathlib.Core.List.{List, [], ◌∷◌}
use seplogic.Ra.Ura.{Ura}
use mir.Syntax.{Callee, Place, Opd as Operand, Body as Code, seq, call}
use mir.Val.{Val}
use base.Logic.{SProp, ent, emp, snd∗, ex_e, id⊢}
use prog.Wp.{Env, Calls, Loops}
use types.Logic.{Logic, sem}
use contract.Lifetimes.{Lfts, Shares, toks}
use contract.Monad.{fact}
use types.Kit.{Item, ‵, raw, some, later, ◌⊛◌, ⋆, Go, Seq, Post as Posts, runs, lands, ◌$◌, ◌∵◌, !, qed, move, drop, use1}
use types.Kit.{use2, split, join, pick, await, done}
use types.Run.{Opds}
use sound.WpLaws.{FmC}
use denote.RattleType.{RattleType, Denots}
use denote.Laws.{Is, shows}
use denote.Signature.{plain}
use denote.Steps.{peeks, heard, nothing}
use denote.Triple.Statement.{Contract, Triple}
use denote.Triple.Call.{calls_at}
use denote.Triple.Clauses.{Ended, Clauses, closing, ensured, lasts as bound}
use denote.Triple.Spec.{triple_of}
use Rattle.thin.proofs.Args.{Arg, slots, rows, kept, vals, machine, owned}

module _ {n : ℕ} (ps : List (Arg n)) (R : RattleType) where
  abbrev pub value_e : Ended
  value_e = record {
    signature = record { lifetimes = n; outlives = []; params = slots ps; result = plain (λ _. R) };
    kept = kept ps;
  }

  module _ (of : (κs : Lfts n) → Denots (rows ps κs) → R.Denot) where
    abbrev pub value_c : {M : Type 1} (𝓤 : Ura M) → Clauses 𝓤 value_e
    value_c 𝓤 κs a = record { ghost = Unit {0}; requires = λ _. emp 𝓤; ensures = λ _ r e. fact 𝓤 (r ≡ of κs a) }

    abbrev pub Value : {M : Type 1} {𝓤 : Ura M} (𝓛 : Logic 𝓤) → Contract 𝓤
    Value {𝓤 = 𝓤} 𝓛 = triple_of 𝓛 value_e.signature (closing 𝓛 value_e (value_c 𝓤))

    module _ {M : Type 1} {𝓤 : Ura M} (𝓛 : Logic 𝓤) (κs : Lfts n) (qs : Shares n)
        (a : Denots (rows ps κs)) where
      open 𝓛 use {H}

      abbrev tokens : Item 𝓤
      tokens = raw (toks 𝓛 n κs qs)

      abbrev asked : (Value 𝓛).Ghost
      asked = ((κs, qs, tt, a, vals κs ps a), tt)

      asks : ent 𝓤 (⋆ 𝓛 (tokens ∷ ‵ (owned κs ps a) ∷ [])) ((Value 𝓛).pre asked)
      asks = qed 𝓛 (tokens ∷ ‵ (owned κs ps a) ∷ []) ∵ join ! $ nothing ! $ move ! (1 ∷ 0 ∷ []) $ done !

      abbrev Said : R.Denot → SProp 𝓤
      Said r = ensured 𝓛 value_e (value_c 𝓤) κs a tt r

      said : (r : R.Denot) → ent 𝓤 (Said r) (fact 𝓤 (r ≡ of κs a))
      said r = ex_e 𝓤 _ (λ ws. snd∗ 𝓤 (sem 𝓛 (bound value_e κs a ws)) (fact 𝓤 (r ≡ of κs a)))

      pub calls-value :
          {C : Calls 𝓤 H} {Λ : Loops 𝓤 H} {E : Env 𝓤 H} {Γ : List (Item 𝓤)} {q : Posts 𝓤 H} {ops : List Operand} {to : Place}
          {rest : Code} →
          FmC 𝓤 H 𝓛.laws C → (key : Callee) → Triple 𝓤 (C key) (Value 𝓛) →
          ((i : Item 𝓤) → Opds (Go {0}) 𝓛 (i ∷ Γ) E ops (machine κs ps a)) →
          ((v : Val) → Is R (of κs a) (v ∷ []) → Seq (Go {0}) 𝓛 (tokens ∷ Γ) (lands C Λ E to v rest q)) →
          Seq (Go {0}) 𝓛 (tokens ∷ ‵ (owned κs ps a) ∷ Γ) (runs C Λ E (seq (call key ops to) rest) q)
      calls-value fm key known ops k =
          use2 𝓛 (raw ((Value 𝓛).pre asked)) asks $ calls_at ! fm (Value 𝓛) known asked (ops _) (λ v.
          use1 𝓛 (later (some (λ (r : R.Denot). (tokens ⊛ ‵ (R.own_val r (v ∷ []))) ⊛ raw (Said r)))) (id⊢ 𝓤 _) $
          await ! tt $ pick ! (λ r. split ! $ move ! (1 ∷ []) $ use1 𝓛 (raw (fact 𝓤 (r ≡ of κs a))) (said r) $
          heard ! (r ≡ of κs a) (λ e. split ! $ move ! (1 ∷ []) $
          peeks ! R (Is R) (shows 𝓛 R) r (v ∷ []) (λ is. drop ! $ k v (subst (λ (x : R.Denot). Is R x (v ∷ [])) e is)))))
