-- Locals of any number as one entry of a walk's context: the parameters, where a theorem is about functions with any parameters.
-- Each lemma repeats the rule of `types.Run` for one local.
--     Blocks τs, locals_of, env_of     a block for each local of the types τs, their declarations, and the environment that they make
--     rooms, cells                   what there is of them: room, or the values vs
--     idle                           one local that holds nothing, as entries of its own
--     alloc_all, pass_all, forget-all, free_all      alloc1, pass1, forget and free1
--     past, past-at, finds_at, opd-at      the local k places after them, which is found and read
--     copies, Spots, opds_all        they are read as the operands of a call
-- Assumes nothing.
use mathlib.Core.Path.{◌≡◌, refl, sym, subst}
use Prim.Native.Nat.{ℕ, suc}
use mathlib.Core.List.{List, [], ◌∷◌, ◌++◌}
use lib.ListN.{get_or}
use seplogic.Ra.Ura.{Ura}
use base.Fraction.{full_share}
use mir.Syntax.{Ty, Step as PStep, place, Opd as Operand, copy, Local, local, value_local}
use mir.Val.{Val}
use base.Logic.{SProp, ent, sep, via}
use base.Fml.{Fml, ftrue, fsep, fat, froom, fdies}
use prog.Wp.{Env, Spot, no_local, read, walk}
use types.Logic.{Logic}
use types.Kit.{Item, ‵, ⋆, nth, del, mean, pull, unpull, push, pop, Goal, prop, allocs, passes, frees, Seq, Step, step}
use types.Kit.{◌$◌, move, fsplit, fjoin, drop, done}
use types.Run.{Reads, Walks, Finds, Opd, Opds, look, init, forget, no_more, and_then, alloc1, pass1, pass0, free1}
use denote.Laws.{Typed}
use denote.Steps.{nothing}

abbrev pub Blocks : List Ty → Type 0
Blocks [] = Unit {0}
Blocks (τ ∷ τs) = ℕ × Blocks τs

abbrev pub locals_of : List Ty → List Local
locals_of [] = []
locals_of (τ ∷ τs) = local τ value_local ∷ locals_of τs

abbrev pub env_of : (τs : List Ty) → Blocks τs → List (Ty × ℕ)
env_of [] bs = []
env_of (τ ∷ τs) bs = (τ, bs.0) ∷ env_of τs bs.1

abbrev pub rooms : (τs : List Ty) → Blocks τs → Fml
rooms [] bs = ftrue
rooms (τ ∷ τs) bs = fsep (fsep (froom τ bs.0 0) (fdies τ bs.0)) (rooms τs bs.1)

abbrev pub cells : (τs : List Ty) → Blocks τs → List Val → Fml
cells [] bs vs = ftrue
cells (τ ∷ τs) bs [] = rooms (τ ∷ τs) bs
cells (τ ∷ τs) bs (v ∷ vs) = fsep (fsep (fat full_share τ bs.0 0 v) (fdies τ bs.0)) (cells τs bs.1 vs)

abbrev pub idle : {M : Type 1} {𝓤 : Ura M} → Ty → ℕ → List (Item 𝓤)
idle τ b = ‵ (froom τ b 0) ∷ ‵ (fdies τ b) ∷ []

-- copies of the locals from i on, as operands
abbrev pub copies : ℕ → List Ty → List Operand
copies i [] = []
copies i (τ ∷ τs) = copy (place i []) ∷ copies (suc i) τs

-- the number of the local k places after the τs
abbrev pub past : List Ty → ℕ → ℕ
past [] k = k
past (τ ∷ τs) k = suc (past τs k)

pub past-at :
    (τs : List Ty) (bs : Blocks τs) (F : List (Ty × ℕ)) (k : ℕ) (d : Ty × ℕ) → get_or (env_of τs bs ++ F) (past τs k) d ≡ get_or F k d
past-at [] bs F k d = refl
past-at (τ ∷ τs) bs F k d = past-at τs bs.1 F k d

-- the locals of E from i on are these
abbrev pub Spots : List (Ty × ℕ) → ℕ → (τs : List Ty) → Blocks τs → (Ty × ℕ) → Type 0
Spots E i [] bs d = Unit {0}
Spots E i (τ ∷ τs) bs d = (get_or E i d ≡ (τ, bs.0)) × Spots E (suc i) τs bs.1 d

spots_after :
    (e : Ty × ℕ) (E : List (Ty × ℕ)) (i : ℕ) (τs : List Ty) (bs : Blocks τs) (d : Ty × ℕ) → Spots E i τs bs d →
    Spots (e ∷ E) (suc i) τs bs d
spots_after e E i [] bs d spots = tt
spots_after e E i (τ ∷ τs) bs d spots = (spots.0, spots_after e E (suc i) τs bs.1 d spots.1)

spots_first : (τs : List Ty) (bs : Blocks τs) (F : List (Ty × ℕ)) (d : Ty × ℕ) → Spots (env_of τs bs ++ F) 0 τs bs d
spots_first [] bs F d = tt
spots_first (τ ∷ τs) bs F d = (refl, spots_after (τ, bs.0) (env_of τs bs.1 ++ F) 0 τs bs.1 d (spots_first τs bs.1 F d))

-- after two others: the result and the first parameter
pub spots_third :
    (e f : Ty × ℕ) (τs : List Ty) (bs : Blocks τs) (F : List (Ty × ℕ)) (d : Ty × ℕ) → Spots (e ∷ f ∷ (env_of τs bs ++ F)) 2 τs bs d
spots_third e f τs bs F d = spots_after e (f ∷ (env_of τs bs ++ F)) 1 τs bs d (spots_after f (env_of τs bs ++ F) 0 τs bs d (spots_first τs bs F d))

-- after three others: the result and the first two parameters
pub spots_fourth :
    (e f g : Ty × ℕ) (τs : List Ty) (bs : Blocks τs) (F : List (Ty × ℕ)) (d : Ty × ℕ) →
    Spots (e ∷ f ∷ g ∷ (env_of τs bs ++ F)) 3 τs bs d
spots_fourth e f g τs bs F d = spots_after e (f ∷ g ∷ (env_of τs bs ++ F)) 2 τs bs d (spots_third f g τs bs F d)

module _ {M : Type 1} {𝓤 : Ura M} {𝓛 : Logic 𝓤} {K : Type 0} where
  open 𝓛 use {H}

  pub alloc_all :
      K → (τs : List Ty) {Γ : List (Item 𝓤)} {ls : List Local} {Kt : Env 𝓤 H → Goal 𝓤 H} →
      ((bs : Blocks τs) → Seq K 𝓛 (‵ (rooms τs bs) ∷ Γ) (allocs ls (λ E. Kt (env_of τs bs ++ E)))) →
      Seq K 𝓛 Γ (allocs (locals_of τs ++ ls) Kt)
  alloc_all t [] k = nothing t $ k tt
  alloc_all t (τ ∷ τs) k = alloc1 t (λ b. alloc_all t τs (λ bs. move t (1 ∷ 2 ∷ []) $ fjoin t $ fjoin t $ k (b, bs)))

  pub pass_all :
      K → (τs : List Ty) (bs : Blocks τs) (vs : List Val) (E : Env 𝓤 H) {Γ : List (Item 𝓤)} {g : Goal 𝓤 H} → Typed τs vs →
      Step K 𝓛 (‵ (cells τs bs vs) ∷ Γ) g (‵ (rooms τs bs) ∷ Γ) (passes (env_of τs bs ++ E) vs g)
  pass_all t [] bs [] E typed = pass0 t
  pass_all t [] bs (v ∷ vs) E typed = absurd typed
  pass_all t (τ ∷ τs) bs [] E typed = absurd typed
  pass_all t (τ ∷ τs) bs (v ∷ vs) E typed =
      step (λ s. fsplit t $ fsplit t $ pass1 t (init t 0 refl typed.0) $
      move t (2 ∷ []) $ pass_all t τs bs.1 vs E typed.1 $ move t (1 ∷ 2 ∷ []) $ fjoin t $ fjoin t $ s)

  pub forget-all :
      K → (τs : List Ty) (bs : Blocks τs) (vs : List Val) {Γ : List (Item 𝓤)} {G : Goal 𝓤 H} →
      Step K 𝓛 (‵ (rooms τs bs) ∷ Γ) G (‵ (cells τs bs vs) ∷ Γ) G
  forget-all t [] bs vs = step (λ s. s)
  forget-all t (τ ∷ τs) bs [] = step (λ s. s)
  forget-all t (τ ∷ τs) bs (v ∷ vs) =
      step (λ s. fsplit t $ fsplit t $ forget t 0 refl $
      move t (2 ∷ []) $ forget-all t τs bs.1 vs $ move t (1 ∷ 2 ∷ []) $ fjoin t $ fjoin t $ s)

  pub free_all :
      K → (τs : List Ty) (bs : Blocks τs) (E : Env 𝓤 H) {Γ : List (Item 𝓤)} {g : Goal 𝓤 H} →
      Step K 𝓛 Γ (frees E g) (‵ (rooms τs bs) ∷ Γ) (frees (env_of τs bs ++ E) g)
  free_all t [] bs E = drop t
  free_all t (τ ∷ τs) bs E = step (λ s. fsplit t $ fsplit t $ free1 t $ free_all t τs bs.1 E $ s)

  module _ {E : Env 𝓤 H} where
    -- where an equation says what local i is
    pub finds_at :
        K → {Γ : List (Item 𝓤)} {i : ℕ} {st : List PStep} {τ : Ty} {b : ℕ} {sp : Spot 𝓤 H} → get_or E i (no_local 𝓤 H) ≡ (τ, b) →
        Walks K 𝓛 Γ E (τ, b, 0) st sp → Finds K 𝓛 Γ E (place i st) sp
    finds_at t {Γ} {i} {st} e w = record {
      go = λ Kt h. subst (λ (p : Ty × ℕ). ent 𝓤 (⋆ 𝓛 Γ) (walk 𝓤 H E (p.0, p.1, 0) st Kt)) (sym e) (w.go Kt h);
    }

    pub opd-at :
        K → {Γ : List (Item 𝓤)} {i : ℕ} {τ : Ty} {b : ℕ} {v : Val} → get_or E i (no_local 𝓤 H) ≡ (τ, b) →
        Reads K 𝓛 Γ τ b 0 v → Opd K 𝓛 Γ E (copy (place i [])) v
    opd-at t {Γ} e r = record {
      go = λ Kt h. subst (λ (p : Ty × ℕ). ent 𝓤 (⋆ 𝓛 Γ) (read 𝓤 H p.0 p.1 0 Kt)) (sym e) (r.go Kt h);
    }

    -- the context may be written another way
    opds_via :
        {Γ Γ' : List (Item 𝓤)} {xs : List Operand} {vs : List Val} → Seq K 𝓛 Γ (prop (⋆ 𝓛 Γ')) → Seq K 𝓛 Γ' (prop (⋆ 𝓛 Γ)) →
        Opds K 𝓛 Γ' E xs vs → Opds K 𝓛 Γ E xs vs
    opds_via {Γ} {Γ'} there back o = record {
      go = λ Kt h. via 𝓤 (⋆ 𝓛 Γ') there.prf (o.go Kt (via 𝓤 (⋆ 𝓛 Γ) back.prf h));
    }

    opds_first :
        K → (i : ℕ) (τs : List Ty) (bs : Blocks τs) (vs : List Val) {Γ : List (Item 𝓤)} → Typed τs vs →
        Spots E i τs bs (no_local 𝓤 H) → Opds K 𝓛 (‵ (cells τs bs vs) ∷ Γ) E (copies i τs) vs
    opds_first t i [] bs [] typed spots = no_more t
    opds_first t i [] bs (v ∷ vs) typed spots = absurd typed
    opds_first t i (τ ∷ τs) bs [] typed spots = absurd typed
    opds_first t i (τ ∷ τs) bs (v ∷ vs) {Γ} typed spots =
        let c : Item 𝓤 = ‵ (fat full_share τ bs.0 0 v) in
        let d : Item 𝓤 = ‵ (fdies τ bs.0) in
        let cs : Item 𝓤 = ‵ (cells τs bs.1 vs) in
        opds_via {Γ' = c ∷ d ∷ cs ∷ Γ} (fsplit t $ fsplit t $ done t) (fjoin t $ fjoin t $ done t)
        (and_then t (opd-at t spots.0 (look t 0 refl))
        (opds_via {Γ' = cs ∷ c ∷ d ∷ Γ} (move t (2 ∷ []) $ done t) (move t (1 ∷ 2 ∷ []) $ done t)
        (opds_first t (suc i) τs bs.1 vs typed.1 spots.1)))

    -- where entry n of the context is their cells, and us another way to write their values
    pub opds_all :
        K → (n i : ℕ) (τs : List Ty) (bs : Blocks τs) {vs us : List Val} {Γ : List (Item 𝓤)} → nth 𝓛 n Γ ≡ ‵ (cells τs bs vs) →
        us ≡ vs → Typed τs vs → Spots E i τs bs (no_local 𝓤 H) → Opds K 𝓛 Γ E (copies i τs) us
    opds_all t n i τs bs {vs} {us} {Γ} e same typed spots =
        let rest : List (Item 𝓤) = del 𝓛 n Γ in
        let entry : Item 𝓤 = nth 𝓛 n Γ in
        let both : SProp 𝓤 = sep 𝓤 (mean 𝓛 entry) (⋆ 𝓛 rest) in
        opds_via {Γ' = entry ∷ rest}
        (record { prf = via 𝓤 both (pull 𝓛 n Γ) (push 𝓛 entry rest) })
        (record { prf = via 𝓤 both (pop 𝓛 entry rest) (unpull 𝓛 n Γ) })
        (subst (λ (j : Item 𝓤). Opds K 𝓛 (j ∷ rest) E (copies i τs) us) (sym e)
        (subst (λ (ws : List Val). Opds K 𝓛 (‵ (cells τs bs vs) ∷ rest) E (copies i τs) ws) (sym same)
        (opds_first t i τs bs vs typed spots)))
