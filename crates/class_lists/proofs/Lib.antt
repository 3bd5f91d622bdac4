mod NumberedPlaces
mod ListOrders
mod ClassCounts
mod FaultFirsts
