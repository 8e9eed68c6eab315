use Rattle.commands.proofs.device_listing.put_listing.Goals as goal

pub returns : goal.returns
returns g c = c.answer_by.ensures _ _ _ c.write_device.ensures
