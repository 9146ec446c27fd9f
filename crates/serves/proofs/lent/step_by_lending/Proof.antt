-- `serves::lent::step_by_lending` meets its contract: `owns`, of `step_mut`. Assumes nothing.
use mathlib.Core.Path.{refl}
use Rattle.thin.proofs.Owns.{owns}
use Rattle.serves.specs.Lent.{stepped}
use Rattle.serves.proofs.LentTypes.{step_both, step_params}
use Rattle.serves.proofs.lent.step_mut.Symbol as step-mut
use Rattle.serves.proofs.lent.step_mut.Met as step-mut-met
use Rattle.serves.specs.contracts.lent.step_by_lending.Key.{name as key}
use Rattle.serves.proofs.lent.step_by_lending.Statement.{statement}
use Rattle.serves.proofs.lent.step_by_lending.Code as code

pub step_by_lending_spec : {M : Type 1} → statement M
step_by_lending_spec 𝓤 𝓛 𝓜 𝓡 w =
    owns step_both step_params (λ κs p a. stepped p a.0.now a.1.0) 𝓛 𝓜 𝓡 𝓡.env key step-mut.name (𝓡.env step-mut.name) refl
    (code.unfolded 𝓤 𝓛.H 𝓜 𝓡 w) (step-mut-met.met 𝓤 𝓛 𝓜 𝓡 (code.calls-serves::lent::step_mut 𝓡.env w))
