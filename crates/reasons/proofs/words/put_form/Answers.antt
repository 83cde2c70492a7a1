-- `words::put_form` meets its contract: an arm each.
use Rattle.reasons.specs.declared.fault.Word.TheVariants.{Call, Head, Raise, Load, Store, Hit}
use Rattle.reasons.specs.Words.{form, fed}
use Rattle.reasons.proofs.PutLaws.{put_at}
use Rattle.reasons.proofs.words.put_form.Goals as goal

pub returns-in-Call : goal.returns-in-Call
unfolding form
returns-in-Call c = put_at (λ word. fed (form word)) _ Call _ _ _ _ c.in-Call.is c.put_text.ensures

pub returns-in-Head : goal.returns-in-Head
unfolding form
returns-in-Head c = put_at (λ word. fed (form word)) _ Head _ _ _ _ c.in-Head.is c.put_text-in-Head.ensures

pub returns-in-Raise : goal.returns-in-Raise
unfolding form
returns-in-Raise c = put_at (λ word. fed (form word)) _ Raise _ _ _ _ c.in-Raise.is c.put_text-in-Raise.ensures

pub returns-in-Load : goal.returns-in-Load
unfolding form
returns-in-Load c = put_at (λ word. fed (form word)) _ Load _ _ _ _ c.in-Load.is c.put_text-in-Load.ensures

pub returns-in-Store : goal.returns-in-Store
unfolding form
returns-in-Store c = put_at (λ word. fed (form word)) _ Store _ _ _ _ c.in-Store.is c.put_text-in-Store.ensures

pub returns-in-Hit : goal.returns-in-Hit
unfolding form
returns-in-Hit c = put_at (λ word. fed (form word)) _ Hit _ _ _ _ c.in-Hit.is c.put_text-in-Hit.ensures
