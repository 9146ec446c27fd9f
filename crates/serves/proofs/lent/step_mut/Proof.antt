-- `serves::lent::step_mut` meets its contract: `thin`, of `step`. Assumes nothing.
use mathlib.Core.Path.{refl}
use Rattle.thin.proofs.Lent.{thin}
use Rattle.serves.specs.Lent.{stepped}
use Rattle.serves.proofs.LentTypes.{step_both, step_params}
use Rattle.serves.proofs.lent.step.Symbol as step
use Rattle.serves.proofs.lent.step.Met as step-met
use Rattle.serves.specs.contracts.lent.step_mut.Key.{name as key}
use Rattle.serves.proofs.lent.step_mut.Statement.{statement}
use Rattle.serves.proofs.lent.step_mut.Code as code

pub step_mut_spec : {M : Type 1} → statement M
step_mut_spec 𝓤 𝓛 𝓜 𝓡 w =
    thin step_both step_params (λ κs p a. stepped p a.0.now a.1.0) 𝓛 𝓜 𝓡 𝓡.env key step.name (𝓡.env step.name) refl
    (code.unfolded 𝓤 𝓛.H 𝓜 𝓡 w) (step-met.met 𝓤 𝓛 𝓜 𝓡 (code.calls-serves::lent::step 𝓡.env w))
